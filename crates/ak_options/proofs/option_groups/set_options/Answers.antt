use Rattle.std.proofs.Common.{ℤ, rules, w64, SFits}
use Rattle.std.proofs.lemmas.Int.{to_z-of_z}
use Rattle.std.proofs.lemmas.Result.{err_from_is_err_and}
use Rattle.ak_options.proofs.Changing.{change_ended, change_given, change_kept, change_stopped}
use Rattle.ak_edit_calls.proofs.Taking.{later_cause}
use Rattle.ak_options.proofs.option_groups.set_options.Goals as goal

pub returns-in_err-held-clause-edits : goal.returns-in_err-held-clause-edits
returns-in_err-held-clause-edits g c =
    let id : ℤ = c.args.options.id in
    let fits : SFits w64 id = search rules in
    change_stopped (g.K.Lookup.keeping c.args.keeper.now) (g.K.Lookup.keeping c.held_row.new.keeper) c.args.at c.args.options c.from_residual.result c.in_err-held.field-0.0 c.args.steps.now
    c.from_residual.ensures.1 c.held_row.ensures.same (rw (to_z-of_z w64 id fits) at c.in_err-held.ensures.refused)

pub returns-in_err-check_given-clause-edits : goal.returns-in_err-check_given-clause-edits
returns-in_err-check_given-clause-edits g c =
    let p = err_from_is_err_and c.from_residual-in_err-check_given.result c.from_residual-in_err-check_given.ensures.1 in
    let k = g.K.Lookup.keeping c.args.keeper.now in
    let id : ℤ = c.args.options.id in
    let fits : SFits w64 id = search rules in
    rw (p.1, p.2) (change_kept k (g.K.Lookup.keeping c.held_row.new.keeper) c.args.at c.args.options c.in_err-check_given.field-0.0 c.args.steps.now c.held_row.ensures.same
    (change_given k c.args.at c.args.options c.in_ok-held.held c.in_err-check_given.field-0.0 (rw (to_z-of_z w64 id fits) at c.in_ok-held.ensures.refused) (rw c.as_given-group.ensures at c.in_err-check_given.ensures.refused)))

pub returns-clause-edits : goal.returns-clause-edits
returns-clause-edits g c =
    let id : ℤ = c.args.options.id in
    let fits : SFits w64 id = search rules in
    let at : SFits w64 c.args.at = c.ranges.at in
    change_ended (g.K.Lookup.keeping c.args.keeper.now) (g.K.Lookup.keeping c.edit_row.new.keeper) c.args.at c.args.options c.in_ok-held.held _
    c.args.steps.now c.edit_row.new.steps c.edit_row.result
    (rw (to_z-of_z w64 id fits) at c.in_ok-held.ensures.refused) (rw c.as_given-group.ensures at c.in_ok-check_given.ensures.answers)
    (rw (c.held_row.ensures.same, c.as_given-group.ensures, to_z-of_z w64 c.args.at at) at c.edit_row.ensures.edits)

pub returns-clause-cause : goal.returns-clause-cause
returns-clause-cause g c = later_cause _ _ _ c.edit_row.result c.held_row.ensures.cause.goes c.edit_row.ensures.cause
