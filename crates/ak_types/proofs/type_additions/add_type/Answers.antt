use Rattle.std.proofs.Common.{ℤ, w64, SFits}
use Rattle.std.proofs.lemmas.Int.{to_z-of_z}
use Rattle.std.proofs.lemmas.Result.{err_from_is_err_and}
use Rattle.ak_edit_calls.proofs.Adding.{id_in_range, id_in_w64}
use Rattle.ak_types.proofs.Adding.{checked_with_id, end_listed, id_listed, side_listed, type_ended, type_full, type_unread, unread}
use Rattle.ak_edit_calls.proofs.Taking.{later_cause, no_cause}
use Rattle.ak_types.proofs.type_additions.add_type.Goals as goal

pub returns-in_err-name-clause-adds : goal.returns-in_err-name-clause-adds
returns-in_err-name-clause-adds g c =
    let p = err_from_is_err_and c.from_residual.result c.from_residual.ensures.1 in
    let at : SFits w64 c.args.at = c.ranges.at in
    rw (p.1, p.2) (type_full (g.K.Lookup.keeping c.args.keeper.now) (g.K.Lookup.keeping c.new_name.new.keeper) c.args.at c.args.note_type c.in_err-name.field-0.0 c.args.steps.now c.new_name.ensures.same
    (rw (to_z-of_z w64 c.args.at at) at c.in_err-name.ensures.refused))

pub returns-in_err-name-clause-listed : goal.returns-in_err-name-clause-listed
returns-in_err-name-clause-listed g c =
    let p = err_from_is_err_and c.from_residual.result c.from_residual.ensures.1 in
    rw (p.1, p.2) (id_listed c.in_err-name.field-0.0 c.in_err-name.ensures.listed)

pub returns-in_err-check_sides-clause-adds : goal.returns-in_err-check_sides-clause-adds
returns-in_err-check_sides-clause-adds g c =
    let p = err_from_is_err_and c.from_residual-in_err-check_sides.result c.from_residual-in_err-check_sides.ensures.1 in
    let at : SFits w64 c.args.at = c.ranges.at in
    rw (p.1, p.2) (type_unread (g.K.Lookup.keeping c.args.keeper.now) (g.K.Lookup.keeping c.new_name.new.keeper) c.args.at c.args.note_type c.in_ok-name.name c.in_err-check_sides.field-0.0 c.args.steps.now c.new_name.ensures.same
    c.in_ok-name.ensures.table (rw (to_z-of_z w64 c.args.at at) at c.in_ok-name.ensures.new) (rw (to_z-of_z w64 c.args.at at) at c.in_ok-name.ensures.refused) c.in_err-check_sides.ensures.answers)

pub returns-in_err-check_sides-clause-listed : goal.returns-in_err-check_sides-clause-listed
returns-in_err-check_sides-clause-listed g c =
    let p = err_from_is_err_and c.from_residual-in_err-check_sides.result c.from_residual-in_err-check_sides.ensures.1 in
    rw (p.1, p.2) (side_listed c.in_err-check_sides.field-0.0 c.in_err-check_sides.ensures.listed)

pub returns-in_err-check_sides-clause-cause : goal.returns-in_err-check_sides-clause-cause
returns-in_err-check_sides-clause-cause g c =
    let p = err_from_is_err_and c.from_residual-in_err-check_sides.result c.from_residual-in_err-check_sides.ensures.1 in
    rw (p.1, p.2) (no_cause _ _ c.in_err-check_sides.field-0.0 c.new_name.ensures.cause.goes (unread c.in_err-check_sides.field-0.0 c.in_err-check_sides.ensures.listed))

pub add_row-requires-clause-checked : goal.add_row-requires-clause-checked
add_row-requires-clause-checked g c =
    let id : ℤ = c.in_ok-name.name.id in
    let fits : SFits w64 id = id_in_w64 id c.in_ok-name.ensures.range in
    rw (c.with_id.ensures, to_z-of_z w64 id fits) (checked_with_id c.args.note_type id c.in_ok-name.ensures.range c.requires.checked)

pub returns-clause-adds : goal.returns-clause-adds
returns-clause-adds g c =
    let id : ℤ = c.in_ok-name.name.id in
    let fits : SFits w64 id = id_in_w64 id c.in_ok-name.ensures.range in
    let at : SFits w64 c.args.at = c.ranges.at in
    let same = c.new_name.ensures.same in
    type_ended (g.K.Lookup.keeping c.args.keeper.now) (g.K.Lookup.keeping c.add_row.new.keeper) c.args.at c.args.note_type c.in_ok-name.name tt c.args.steps.now c.add_row.new.steps c.add_row.result
    c.in_ok-check_sides.ensures.answers c.in_ok-name.ensures.table (rw (to_z-of_z w64 c.args.at at) at c.in_ok-name.ensures.new) (rw (to_z-of_z w64 c.args.at at) at c.in_ok-name.ensures.refused)
    (rw (c.with_id.ensures, to_z-of_z w64 id fits) at c.add_row.ensures.id)
    (rw (same, c.with_id.ensures, to_z-of_z w64 id fits, to_z-of_z w64 c.args.at at) at c.add_row.ensures.edits)

pub returns-clause-range : goal.returns-clause-range
returns-clause-range g c =
    let id : ℤ = c.in_ok-name.name.id in
    let fits : SFits w64 id = id_in_w64 id c.in_ok-name.ensures.range in
    id_in_range c.add_row.result id c.in_ok-name.ensures.range (rw (c.with_id.ensures, to_z-of_z w64 id fits) at c.add_row.ensures.id)

pub returns-clause-listed : goal.returns-clause-listed
returns-clause-listed g c = end_listed c.add_row.result c.add_row.ensures.listed

pub returns-clause-cause : goal.returns-clause-cause
returns-clause-cause g c = later_cause _ _ _ c.add_row.result c.new_name.ensures.cause.goes c.add_row.ensures.cause
