use Rattle.ak_memory.proofs.Keys.{both_put, kept_twice, note_added, notes_kept, queue_added, queues_kept}
use Rattle.ak_memory.proofs.card_keys.CardKeys.add_both.Goals as goal

pub returns-in_err-add_note-clause-kept : goal.returns-in_err-add_note-clause-kept
returns-in_err-add_note-clause-kept c = notes_kept c.args.self.now c.add_note.new.self c.in_err-add_note.ensures.err c.add_note.ensures.others

pub returns-in_err-add_queue-clause-kept : goal.returns-in_err-add_queue-clause-kept
returns-in_err-add_queue-clause-kept c =
    kept_twice c.args.self.now c.add_note.new.self c.add_queue.new.self (note_added c.args.self.now c.add_note.new.self c.args.card.now c.args.name c.in_ok-add_note.ensures.keys c.add_note.ensures.others)
    (queues_kept c.add_note.new.self c.add_queue.new.self c.in_err-add_queue.ensures.err c.add_queue.ensures.others)

pub returns-clause-kept : goal.returns-clause-kept
returns-clause-kept c =
    kept_twice c.args.self.now c.add_note.new.self c.add_queue.new.self (note_added c.args.self.now c.add_note.new.self c.args.card.now c.args.name c.in_ok-add_note.ensures.keys c.add_note.ensures.others)
    (queue_added c.add_note.new.self c.add_queue.new.self c.args.card.now c.args.name c.in_ok-add_queue.ensures.keys c.add_queue.ensures.others)

pub returns-clause-ok : goal.returns-clause-ok
returns-clause-ok c =
    both_put c.args.self.now c.add_note.new.self c.add_queue.new.self c.args.card.now c.args.name c.in_ok-add_note.ensures.keys
    (queue_added c.add_note.new.self c.add_queue.new.self c.args.card.now c.args.name c.in_ok-add_queue.ensures.keys c.add_queue.ensures.others) c.in_ok-add_queue.ensures.keys
