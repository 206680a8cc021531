use Rattle.std.proofs.Common.{w64, SFits}
use Rattle.std.proofs.lemmas.Int.{to_z-of_z}
use Rattle.std.proofs.lemmas.Result.{err_from_is_err_and}
use Rattle.ak_edit.specs.Overlays.{Overlay}
use Rattle.ak_types.proofs.Listing.{test_in}
use Rattle.ak_types.proofs.TypeEditing.{form_passes, form_refuses}
use Rattle.ak_types.proofs.type_edits.read_for_type.Goals as goal

pub returns-in_err-test_type-clause-refused : goal.returns-in_err-test_type-clause-refused
returns-in_err-test_type-clause-refused g c =
    let p = err_from_is_err_and c.from_residual.result c.from_residual.ensures.1 in
    rw (p.1, p.2) (form_refuses (Unit {0}) Overlay (g.K.Lookup.keeping c.args.keeper.now) c.args.at c.args.given.now c.args.old.now c.in_err-test_type.field-0.0 c.in_err-test_type.ensures.refused)

pub returns-in_err-test_type-clause-listed : goal.returns-in_err-test_type-clause-listed
returns-in_err-test_type-clause-listed g c =
    let p = err_from_is_err_and c.from_residual.result c.from_residual.ensures.1 in
    rw (p.1, p.2) (test_in c.args.given.now.note_type.id c.in_err-test_type.field-0.0 c.in_err-test_type.ensures.listed)

pub returns-clause-refused : goal.returns-clause-refused
returns-clause-refused g c =
    let at : SFits w64 c.args.at = c.ranges.at in
    form_passes (g.K.Lookup.keeping c.args.keeper.now) c.args.at c.args.given.now c.args.old.now tt c.make_edit.result c.in_ok-test_type.ensures.refused
    (rw (c.test_type.ensures.same, to_z-of_z w64 c.args.at at) at c.make_edit.ensures.refused)
