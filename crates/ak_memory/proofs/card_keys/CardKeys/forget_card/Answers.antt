use Rattle.std.proofs.Common.{◌&&◌, ◌∙◌, Option, false, cond, not, ap}
use Rattle.std.specs.BTreeMap.{is_at}
use Rattle.std.specs.BTreeSet.{BTreeSet}
use Rattle.ak_memory.specs.CardKeys.{note_key, queue_key, shares_note, shares_place}
use Rattle.ak_memory.specs.NoteKeys.{NoteKey, has_key}
use Rattle.ak_memory.specs.QueueKeys.{QueueKey, has_queue_key, queue_key_cmp}
use Rattle.ak_memory.specs.declared.held_rows.FoundBy.{FoundBy}
use Rattle.ak_memory.proofs.Keys.{gone, keys-forgotten, needed_by, not_needed, note_itself, queue_itself}
use Rattle.ak_memory.proofs.card_keys.CardKeys.forget_card.Goals as goal

pub returns-clause-all : goal.returns-clause-all
returns-clause-all c =
    let was = c.args.was.now in
    let found = c.found_under-found in
    keys-forgotten c.args.self.now c.drop_queue.new.self c.args.places.now.entries was c.args.name c.needs_note.result c.needs_place.result c.requires
    (needed_by (λ (o : Option FoundBy). shares_note o was) c.needs_note.result _ _ _ _ c.needs_note.ensures found.ensures.now found.ensures.mark)
    (needed_by (λ (o : Option FoundBy). shares_place o was) c.needs_place.result _ _ _ _ c.needs_place.ensures found.ensures.now found.ensures.mark)
    (λ key. ap (λ (s : BTreeSet NoteKey). has_key s.keys key) c.drop_queue.ensures.others ∙ c.drop_note.ensures.keys key)
    (λ key. c.drop_queue.ensures.keys key
    ∙ ap (λ (s : BTreeSet QueueKey). cond (not c.needs_place.result && is_at (queue_key_cmp (queue_key was c.args.name)) key) false (has_queue_key s.keys key)) c.drop_note.ensures.others)

pub returns-clause-gone : goal.returns-clause-gone
returns-clause-gone c =
    let was = c.args.was.now in
    let found = c.found_under-found in
    record {
      note = λ now mark.
          ap (λ (s : BTreeSet NoteKey). has_key s.keys (note_key was c.args.name)) c.drop_queue.ensures.others ∙ c.drop_note.ensures.keys (note_key was c.args.name)
          ∙ gone _ _ (not_needed _ _ c.needs_note.result _ (needed_by (λ (o : Option FoundBy). shares_note o was) c.needs_note.result _ _ _ _ c.needs_note.ensures found.ensures.now found.ensures.mark) now mark
          (note_itself was c.args.name));
      queue = λ now mark.
          c.drop_queue.ensures.keys (queue_key was c.args.name)
          ∙ gone _ _ (not_needed _ _ c.needs_place.result _ (needed_by (λ (o : Option FoundBy). shares_place o was) c.needs_place.result _ _ _ _ c.needs_place.ensures found.ensures.now found.ensures.mark) now mark
          (queue_itself was c.args.name));
    }
