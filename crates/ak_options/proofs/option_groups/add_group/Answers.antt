use Rattle.std.proofs.Common.{ℤ, w64, SFits}
use Rattle.std.proofs.lemmas.Int.{to_z-of_z}
use Rattle.std.proofs.lemmas.Result.{err_from_is_err_and}
use Rattle.ak_edit_calls.proofs.Adding.{id_in_range, id_in_w64}
use Rattle.ak_options.proofs.Adding.{checked_with_id, group_ended, group_full, group_listed}
use Rattle.ak_edit_calls.proofs.Taking.{later_cause}
use Rattle.ak_options.proofs.option_groups.add_group.Goals as goal

pub returns-in_err-name-clause-adds : goal.returns-in_err-name-clause-adds
returns-in_err-name-clause-adds g c =
    let p = err_from_is_err_and c.from_residual.result c.from_residual.ensures.1 in
    let at : SFits w64 c.args.at = c.ranges.at in
    rw (p.1, p.2) (group_full (g.K.Lookup.keeping c.args.keeper.now) (g.K.Lookup.keeping c.new_name.new.keeper) c.args.at c.args.group c.in_err-name.field-0.0 c.args.steps.now c.new_name.ensures.same
    (rw (to_z-of_z w64 c.args.at at) at c.in_err-name.ensures.refused))

pub add_row-requires-clause-checked : goal.add_row-requires-clause-checked
add_row-requires-clause-checked g c =
    let id : ℤ = c.in_ok-name.name.id in
    let fits : SFits w64 id = id_in_w64 id c.in_ok-name.ensures.range in
    rw (c.with_id.ensures, to_z-of_z w64 id fits) (checked_with_id c.args.group id c.in_ok-name.ensures.range c.requires.checked)

pub returns-clause-adds : goal.returns-clause-adds
returns-clause-adds g c =
    let id : ℤ = c.in_ok-name.name.id in
    let fits : SFits w64 id = id_in_w64 id c.in_ok-name.ensures.range in
    let at : SFits w64 c.args.at = c.ranges.at in
    let same = c.new_name.ensures.same in
    group_ended (g.K.Lookup.keeping c.args.keeper.now) (g.K.Lookup.keeping c.add_row.new.keeper) c.args.at c.args.group c.in_ok-name.name c.args.steps.now c.add_row.new.steps c.add_row.result
    c.in_ok-name.ensures.table (rw (to_z-of_z w64 c.args.at at) at c.in_ok-name.ensures.new) (rw (to_z-of_z w64 c.args.at at) at c.in_ok-name.ensures.refused)
    (rw (c.with_id.ensures, to_z-of_z w64 id fits) at c.add_row.ensures.id)
    (rw (same, c.with_id.ensures, to_z-of_z w64 id fits, to_z-of_z w64 c.args.at at) at c.add_row.ensures.edits)

pub returns-clause-range : goal.returns-clause-range
returns-clause-range g c =
    let id : ℤ = c.in_ok-name.name.id in
    let fits : SFits w64 id = id_in_w64 id c.in_ok-name.ensures.range in
    id_in_range c.add_row.result id c.in_ok-name.ensures.range (rw (c.with_id.ensures, to_z-of_z w64 id fits) at c.add_row.ensures.id)

pub returns-clause-listed : goal.returns-clause-listed
returns-clause-listed g c = group_listed c.add_row.result c.add_row.ensures.listed

pub returns-clause-cause : goal.returns-clause-cause
returns-clause-cause g c = later_cause _ _ _ c.add_row.result c.new_name.ensures.cause.goes c.add_row.ensures.cause
