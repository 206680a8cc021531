use Rattle.std.proofs.Common.{w64, SFits}
use Rattle.std.proofs.lemmas.Int.{to_z-of_z}
use Rattle.std.proofs.lemmas.Result.{err_from_is_err_and}
use Rattle.ak_options.proofs.Adding.{addition_ended, addition_given, given_cause}
use Rattle.ak_options.proofs.option_groups.add_options.Goals as goal

pub returns-in_err-check_given-clause-adds : goal.returns-in_err-check_given-clause-adds
returns-in_err-check_given-clause-adds g c =
    let p = err_from_is_err_and c.from_residual.result c.from_residual.ensures.1 in
    rw (p.1, p.2) (addition_given (g.K.Lookup.keeping c.args.keeper.now) c.args.at c.args.options c.in_err-check_given.field-0.0 c.args.steps.now
    (rw (c.with_id-given.ensures, c.as_given.ensures) at c.in_err-check_given.ensures.refused))

pub returns-clause-adds : goal.returns-clause-adds
returns-clause-adds g c =
    let at : SFits w64 c.args.at = c.ranges.at in
    addition_ended (g.K.Lookup.keeping c.args.keeper.now) (g.K.Lookup.keeping c.add_group.new.keeper) c.args.at c.args.options _ c.args.steps.now c.add_group.new.steps c.add_group.result
    (rw (c.with_id-given.ensures, c.as_given.ensures) at c.in_ok-check_given.ensures.answers)
    (rw (c.with_id-given.ensures, c.as_given.ensures, to_z-of_z w64 c.args.at at) at c.add_group.ensures.adds)

pub returns-in_err-check_given-clause-cause : goal.returns-in_err-check_given-clause-cause
returns-in_err-check_given-clause-cause g c =
    let p = err_from_is_err_and c.from_residual.result c.from_residual.ensures.1 in
    rw (p.1, p.2) (given_cause (g.K.Lookup.health c.args.keeper.now) c.with_id-given.result c.in_err-check_given.field-0.0 c.in_err-check_given.ensures.refused)
