use Rattle.std.proofs.Common.{ap, sym, subst, length, rules, Err, ℕ, w64, SFits}
use Rattle.std.proofs.lemmas.Int.{to_z-of_z}
use Rattle.std.proofs.lemmas.Result.{err_from_is_err_and}
use Rattle.ak_edit.specs.Ends.{IsHeldRightly}
use Rattle.ak_faults.proofs.Healths.{cause_after, goes_further}
use Rattle.ak_filtered.proofs.Buildings.{IsReady, built_done, built_first, built_refused, built_tells, ready}
use Rattle.ak_filtered.proofs.FilteredTells.{ended_outside, keeper_outside}
use Rattle.ak_filtered.proofs.Told.{held_always}
use Rattle.ak_filtered.specs.Builds.{RefusesBuilding, RefusesToBuild}
use Rattle.ak_filtered.specs.FilteredFaults.{FilteredCause, TellsToEnd, of_keep_fault}
use Rattle.ak_filtered.specs.declared.faults.FilteredFault.{FilteredFault}
use Rattle.ak_keep.specs.Keepers.{WhereHeld}
use Rattle.ak_filtered.proofs.builds.build.Goals as goal

pub returns-in_err-planned-clause-refused : goal.returns-in_err-planned-clause-refused
returns-in_err-planned-clause-refused g c =
    let id : SFits w64 c.args.deck = c.ranges.deck in
    let p = err_from_is_err_and c.from_residual.result c.from_residual.ensures.1 in
    rw (p.1, p.2) (built_first (g.K.Lookup.keeping c.args.keeper.now) c.args.at c.args.deck c.in_err-planned.field-0.0 (rw (to_z-of_z w64 c.args.deck id) at c.in_err-planned.ensures.refused))

pub returns-in-Ok-finish_cleared-clause-ok : goal.returns-in-Ok-finish_cleared-clause-ok
returns-in-Ok-finish_cleared-clause-ok g c =
    let at : SFits w64 c.args.at = c.ranges.at in
    let id : SFits w64 c.args.deck = c.ranges.deck in
    let known : WhereHeld (g.K.Lookup.keeping c.args.keeper.now) IsHeldRightly = rw (c.in-Ok.ensures.reads.same, c.in_ok-planned.ensures.same) at c.in-Ok-finish_cleared.ensures.known in
    let is : WhereHeld (g.K.Lookup.keeping c.args.keeper.now) (IsReady c.args.at c.args.deck c.in_ok-planned.planned c.in-Ok.filled) =
    ready (g.K.Lookup.keeping c.args.keeper.now) c.args.at c.args.deck c.in_ok-planned.planned c.in-Ok.filled known (rw (to_z-of_z w64 c.args.deck id) at c.in_ok-planned.ensures.plan)
    (rw (c.in_ok-planned.ensures.same, to_z-of_z w64 c.args.at at, to_z-of_z w64 c.args.deck id) at c.in-Ok.ensures.reads.told) in
    built_done (g.K.Lookup.keeping c.args.keeper.now) (g.K.Lookup.keeping c.finish_cleared.new.keeper) c.args.at c.args.deck c.in_ok-planned.planned c.in-Ok.filled c.finish_cleared.new.steps (length c.as_slice.result.now) tt
    (ap length c.as_slice.ensures) is (rw (c.in-Ok.ensures.reads.same, c.in_ok-planned.ensures.same, to_z-of_z w64 c.args.at at) at c.in-Ok-finish_cleared.ensures.ok)
    (rw (c.in-Ok.ensures.reads.same, c.in_ok-planned.ensures.same, to_z-of_z w64 c.args.at at) at c.in-Ok-finish_cleared.ensures.refused)

pub returns-in-Ok-finish_cleared-clause-refused : goal.returns-in-Ok-finish_cleared-clause-refused
returns-in-Ok-finish_cleared-clause-refused g c =
    let id : SFits w64 c.args.deck = c.ranges.deck in
    built_tells (g.K.Lookup.keeping c.args.keeper.now) c.args.at c.args.deck c.in_ok-planned.planned (length c.as_slice.result.now) (rw (to_z-of_z w64 c.args.deck id) at c.in_ok-planned.ensures.refused)

pub returns-clause-refused : goal.returns-clause-refused
returns-clause-refused g c =
    let at : SFits w64 c.args.at = c.ranges.at in
    let id : SFits w64 c.args.deck = c.ranges.deck in
    let known : WhereHeld (g.K.Lookup.keeping c.args.keeper.now) IsHeldRightly = rw (c.in-Ok.ensures.reads.same, c.in_ok-planned.ensures.same) at c.in-Err-finish_cleared.ensures.known in
    let is : WhereHeld (g.K.Lookup.keeping c.args.keeper.now) (IsReady c.args.at c.args.deck c.in_ok-planned.planned c.in-Ok.filled) =
    ready (g.K.Lookup.keeping c.args.keeper.now) c.args.at c.args.deck c.in_ok-planned.planned c.in-Ok.filled known (rw (to_z-of_z w64 c.args.deck id) at c.in_ok-planned.ensures.plan)
    (rw (c.in_ok-planned.ensures.same, to_z-of_z w64 c.args.at at, to_z-of_z w64 c.args.deck id) at c.in-Ok.ensures.reads.told) in
    subst (λ (f : FilteredFault). WhereHeld (g.K.Lookup.keeping c.args.keeper.now) (λ d. TellsToEnd {T = ℕ} (RefusesToBuild c.args.deck d) (RefusesBuilding c.args.at c.args.deck d) (Err f)))
    (sym c.from-in-Err-finish_cleared.ensures)
    (built_refused (g.K.Lookup.keeping c.args.keeper.now) c.args.at c.args.deck c.in_ok-planned.planned c.in-Ok.filled c.in-Err-finish_cleared.fault is (rw (to_z-of_z w64 c.args.deck id) at c.in_ok-planned.ensures.refused)
    (rw (c.in-Ok.ensures.reads.same, c.in_ok-planned.ensures.same, to_z-of_z w64 c.args.at at) at c.in-Err-finish_cleared.ensures.refused))

pub returns-clause-cause : goal.returns-clause-cause
returns-clause-cause g c =
    let direct : FilteredCause {T = ℕ} (g.K.Lookup.health c.fill.new.keeper) (g.K.Lookup.health c.finish_cleared.new.keeper) (Err c.from-in-Err-finish_cleared.result) = search rules in
    cause_after (goes_further c.in_ok-planned.ensures.cause.goes c.in-Ok.ensures.reads.cause.goes) direct

pub returns-in-Err-clause-refused : goal.returns-in-Err-clause-refused
returns-in-Err-clause-refused g c =
    rw c.from.ensures
    (held_always (g.K.Lookup.keeping c.args.keeper.now) (λ d. TellsToEnd {T = ℕ} (RefusesToBuild c.args.deck d) (RefusesBuilding c.args.at c.args.deck d) (Err (of_keep_fault c.in-Err.fault)))
    (λ d. ended_outside (RefusesToBuild c.args.deck d) (RefusesBuilding c.args.at c.args.deck d) (of_keep_fault c.in-Err.fault) (keeper_outside c.in-Err.fault)))

pub returns-in-Err-clause-cause : goal.returns-in-Err-clause-cause
returns-in-Err-clause-cause g c =
    let direct : FilteredCause {T = ℕ} (g.K.Lookup.health c.read_plan.new.keeper) (g.K.Lookup.health c.fill.new.keeper) (Err c.from.result) = search rules in
    cause_after c.in_ok-planned.ensures.cause.goes direct
