use Rattle.std.proofs.Common.{w64, SFits}
use Rattle.std.proofs.lemmas.Int.{to_z-of_z}
use Rattle.ak_edit_calls.proofs.Answering.{on_ok-map}
use Rattle.ak_edit_calls.specs.Calls.{DoesEdit}
use Rattle.ak_edit.specs.Ends.{FinishedBy}
use Rattle.ak_notes.proofs.DeletionRules.{deletion_answered, deletion_done}
use Rattle.ak_notes.specs.Deletions.{deletion}
use Rattle.ak_notes.proofs.deletions.delete_notes.Goals as goal

pub returns-clause-edits : goal.returns-clause-edits
returns-clause-edits g c =
    let k = g.K.Lookup.keeping c.args.keeper.now in
    let notes = c.args.notes.now in
    let o = c.remove_notes.new.change in
    let fits : SFits w64 c.args.at = c.ranges.at in
    let now = g.K.Lookup.keeping c.finish.new.keeper in
    record {
      done = on_ok-map c.finish.result (FinishedBy c.args.at o k now c.args.steps.now c.finish.new.steps) (DoesEdit c.args.at (deletion notes) k now c.args.steps.now c.finish.new.steps)
          (deletion_done k now c.args.at notes o c.args.steps.now c.finish.new.steps
          (rw c.new-change.ensures at c.in_ok-remove_notes.ensures.ok)) (rw (c.remove_notes.ensures.same, to_z-of_z w64 c.args.at fits) at c.finish.ensures.ok);
      same = rw c.remove_notes.ensures.same at c.finish.ensures.err;
      kept = c.finish.ensures.kept;
      stays = rw c.remove_notes.ensures.same at c.finish.ensures.stays;
      answers = deletion_answered k c.args.at notes c.remove_notes.new.change c.in_ok-remove_notes.field-0 c.finish.result
          (rw c.new-change.ensures at c.in_ok-remove_notes.ensures.ok) c.in_ok-remove_notes.ensures.refused
          (rw c.remove_notes.ensures.same at c.finish.ensures.known) (rw (c.remove_notes.ensures.same, to_z-of_z w64 c.args.at fits) at c.finish.ensures.refused);
    }
