use Rattle.std.proofs.Common.{rules, w64}
use Rattle.std.proofs.lemmas.Int.{to_z-of_z}
use mir.Val.{SFits}
use Rattle.ak_memory.proofs.Keys.{queue_put}
use Rattle.ak_memory.proofs.card_keys.CardKeys.add_queue.Goals as goal

pub returns-clause-keys : goal.returns-clause-keys
returns-clause-keys c =
    let queue : SFits w64 c.args.card.now.queue = search rules in
    let due : SFits w64 c.args.card.now.due = search rules in
    queue_put c.args.self.now.queues.keys c.insert.new.self.keys c.args.card.now c.args.name _ _ (to_z-of_z w64 c.args.card.now.queue queue) (to_z-of_z w64 c.args.card.now.due due)
    c.in_ok-insert.ensures.updates.0
