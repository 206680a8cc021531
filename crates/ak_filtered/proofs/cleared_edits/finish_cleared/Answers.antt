use Rattle.std.proofs.Common.{w64, SFits}
use Rattle.std.proofs.lemmas.Int.{to_z-of_z}
use Rattle.std.proofs.lemmas.Result.{err_from_is_err_and}
use Rattle.ak_filtered.proofs.ClearedOnes.{finished_cleared}
use Rattle.ak_filtered.proofs.cleared_edits.finish_cleared.Goals as goal

pub returns-clause-ok : goal.returns-clause-ok
returns-clause-ok g c =
    let fits : SFits w64 c.args.at = c.ranges.at in
    finished_cleared (g.K.Lookup.keeping c.args.keeper.now) (g.K.Lookup.keeping c.finish.new.keeper) c.args.at c.args.change c.args.steps.now c.finish.new.steps c.clear.new.self c.clear.ensures
    c.in_ok-finish.ensures.known (rw (to_z-of_z w64 c.args.at fits) at c.in_ok-finish.ensures.ok)

pub returns-clause-refused : goal.returns-clause-refused
returns-clause-refused g c =
    let fits : SFits w64 c.args.at = c.ranges.at in
    rw (to_z-of_z w64 c.args.at fits) at c.in_ok-finish.ensures.refused

pub returns-in_err-finish-clause-refused : goal.returns-in_err-finish-clause-refused
returns-in_err-finish-clause-refused g c =
    let fits : SFits w64 c.args.at = c.ranges.at in
    let p = err_from_is_err_and c.from_residual.result c.from_residual.ensures.1 in
    rw (p.1, p.2) (rw (to_z-of_z w64 c.args.at fits) at c.in_err-finish.ensures.refused)
