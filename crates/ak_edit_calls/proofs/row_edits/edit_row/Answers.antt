use Rattle.std.proofs.Common.{w64, SFits}
use Rattle.std.proofs.lemmas.Int.{to_z-of_z}
use Rattle.ak_edit_calls.proofs.Answering.{on_ok-map}
use Rattle.ak_edit_calls.proofs.RowRules.{row_edit_answered, row_edit_done}
use Rattle.ak_edit_calls.specs.Calls.{DoesEdit}
use Rattle.ak_edit_calls.specs.RowEdits.{row_edit}
use Rattle.ak_edit.specs.Ends.{FinishedBy}
use Rattle.ak_edit_calls.proofs.row_edits.edit_row.Goals as goal

pub returns-clause-edits : goal.returns-clause-edits
returns-clause-edits g c =
    let k = g.K.Lookup.keeping c.args.keeper.now in
    let now = g.K.Lookup.keeping c.finish.new.keeper in
    let fits : SFits w64 c.args.at = c.ranges.at in
    record {
      done = on_ok-map c.finish.result (FinishedBy c.args.at c.put.new.self k now c.args.steps.now c.finish.new.steps) (DoesEdit c.args.at (row_edit c.args.row) k now c.args.steps.now c.finish.new.steps)
          (row_edit_done k now c.args.at c.args.row c.put.new.self c.args.steps.now c.finish.new.steps (rw c.new-change.ensures at c.in_ok-put.ensures.ok))
          (rw (to_z-of_z w64 c.args.at fits) at c.finish.ensures.ok);
      same = c.finish.ensures.err;
      kept = c.finish.ensures.kept;
      stays = c.finish.ensures.stays;
      answers = row_edit_answered k c.args.at c.args.row c.put.new.self c.finish.result c.requires.checked (rw c.new-change.ensures at c.in_ok-put.ensures.ok)
          c.finish.ensures.known (rw (to_z-of_z w64 c.args.at fits) at c.finish.ensures.refused);
    }
