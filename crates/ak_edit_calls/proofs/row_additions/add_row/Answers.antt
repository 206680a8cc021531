use Rattle.std.proofs.Common.{w64, SFits}
use Rattle.std.proofs.lemmas.Int.{to_z-of_z}
use Rattle.std.proofs.lemmas.Result.{err_from_is_err_and}
use Rattle.ak_edit_calls.proofs.Adding.{put_err, put_ok}
use Rattle.ak_edit_calls.proofs.Taking.{cause_too}
use Rattle.ak_edit_calls.proofs.row_additions.add_row.Goals as goal

pub returns-in_err-edit_row-clause-edits : goal.returns-in_err-edit_row-clause-edits
returns-in_err-edit_row-clause-edits g c =
    let at : SFits w64 c.args.at = c.ranges.at in
    let p = err_from_is_err_and c.from_residual.result c.from_residual.ensures.1 in
    rw (p.1, p.2) (put_err (g.K.Lookup.keeping c.args.keeper.now) (g.K.Lookup.keeping c.edit_row.new.keeper) c.args.at c.args.row c.in_err-edit_row.field-0.0 c.args.steps.now c.edit_row.new.steps
    (rw (to_z-of_z w64 c.args.at at) at c.in_err-edit_row.ensures.edits))

pub returns-clause-edits : goal.returns-clause-edits
returns-clause-edits g c =
    let at : SFits w64 c.args.at = c.ranges.at in
    put_ok (g.K.Lookup.keeping c.args.keeper.now) (g.K.Lookup.keeping c.edit_row.new.keeper) c.args.at c.args.row _ _ c.args.steps.now c.edit_row.new.steps
    (rw (to_z-of_z w64 c.args.at at) at c.in_ok-edit_row.ensures.edits)

pub returns-in_err-edit_row-clause-cause : goal.returns-in_err-edit_row-clause-cause
returns-in_err-edit_row-clause-cause g c =
    let p = err_from_is_err_and c.from_residual.result c.from_residual.ensures.1 in
    rw (p.1, p.2) (cause_too _ _ c.in_err-edit_row.field-0.0 c.in_err-edit_row.ensures.cause)
