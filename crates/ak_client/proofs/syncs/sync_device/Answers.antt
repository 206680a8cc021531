use Rattle.std.specs.Prelude.{Result}
use Rattle.std.proofs.Common.{subst}
use Rattle.ak_client.proofs.Clocks.{keeps_more, takes_more, unchanged_keeps}
use Rattle.ak_client.proofs.Syncing.{met_sparing, unmet_sparing}
use Rattle.ak_client.proofs.Testing.{exits, heads_told}
use Rattle.ak_client.specs.Outcomes.{outcome_of}
use Rattle.ak_client.specs.Syncs.{IsSyncSparing, KeepsDevice}
use Rattle.ak_client.specs.declared.outcomes.Outcome.{Outcome}
use Rattle.ak_exchange.proofs.Faults.{cause_passed}
use Rattle.ak_faults.proofs.Healths.{cause_after}
use Rattle.ak_keep.specs.Keepers.{Keeping}
use Rattle.ak_client.proofs.syncs.sync_device.Goals as goal

pub returns-in_err-met-clause-spares : goal.returns-in_err-met-clause-spares
returns-in_err-met-clause-spares g c =
    exits c.from_residual.result c.in_err-met.field-0.0
    (λ (r : Result (Unit {0}) Outcome). IsSyncSparing g.K.Keeper.spares_memory c.args.ids (g.K.Lookup.keeping c.args.keeper.now) (g.K.Lookup.keeping c.greet.new.keeper)
    (g.W.End.health c.args.wire.now) (g.W.End.health c.greet.new.wire) (g.W.Wire.state c.args.wire.now) (g.W.Wire.state c.greet.new.wire)
    (g.C.Clock.to_come c.args.clock.now) (outcome_of r))
    c.from_residual.ensures.1
    (unmet_sparing g.K.Keeper.spares_memory c.args.ids c.in_err-met.field-0.0 (g.K.Lookup.keeping c.args.keeper.now) (g.K.Lookup.keeping c.greet.new.keeper)
    (g.W.End.health c.args.wire.now) (g.W.End.health c.greet.new.wire) (g.W.Wire.state c.args.wire.now) (g.W.Wire.state c.greet.new.wire)
    (g.C.Clock.to_come c.args.clock.now) (g.C.Clock.to_come c.greet.new.clock) c.in_err-met.ensures.heard c.in_err-met.ensures.early c.in_err-met.ensures.greets)

pub returns-in_err-met-clause-device : goal.returns-in_err-met-clause-device
returns-in_err-met-clause-device g c =
    exits c.from_residual.result c.in_err-met.field-0.0
    (λ (r : Result (Unit {0}) Outcome). KeepsDevice 1 (g.K.Lookup.keeping c.args.keeper.now) (g.K.Lookup.keeping c.greet.new.keeper)
    (g.C.Clock.to_come c.args.clock.now) (g.C.Clock.to_come c.greet.new.clock) (outcome_of r))
    c.from_residual.ensures.1
    (unchanged_keeps 1 (g.K.Lookup.keeping c.args.keeper.now) (g.K.Lookup.keeping c.greet.new.keeper)
    (g.C.Clock.to_come c.args.clock.now) (g.C.Clock.to_come c.greet.new.clock) c.in_err-met.field-0.0 c.in_err-met.ensures.early c.in_err-met.ensures.same)

pub returns-clause-spares : goal.returns-clause-spares
returns-clause-spares g c =
    met_sparing g.K.Keeper.spares_memory c.args.ids c.in_ok-met.met (g.K.Lookup.keeping c.args.keeper.now) (g.K.Lookup.keeping c.greet.new.keeper) (g.K.Lookup.keeping c.sync_met.new.keeper)
    (g.W.End.health c.args.wire.now) (g.W.End.health c.greet.new.wire) (g.W.End.health c.sync_met.new.wire)
    (g.W.Wire.state c.args.wire.now) (g.W.Wire.state c.greet.new.wire) (g.W.Wire.state c.sync_met.new.wire)
    (g.C.Clock.to_come c.args.clock.now) (g.C.Clock.to_come c.greet.new.clock) (outcome_of c.sync_met.result) c.in_ok-met.ensures.heard c.in_ok-met.ensures.greets
    c.in_ok-met.ensures.ready c.in_ok-met.ensures.clocks c.in_ok-met.ensures.known c.in_ok-met.ensures.same c.sync_met.ensures.ends

pub returns-clause-device : goal.returns-clause-device
returns-clause-device g c =
    subst (λ (k : Keeping). KeepsDevice 1 k (g.K.Lookup.keeping c.sync_met.new.keeper) (g.C.Clock.to_come c.args.clock.now)
    (g.C.Clock.to_come c.sync_met.new.clock) (outcome_of c.sync_met.result)) c.in_ok-met.ensures.same
    (keeps_more (g.K.Lookup.keeping c.greet.new.keeper) (g.K.Lookup.keeping c.sync_met.new.keeper) (g.C.Clock.to_come c.args.clock.now)
    (g.C.Clock.to_come c.greet.new.clock) (g.C.Clock.to_come c.sync_met.new.clock) (outcome_of c.sync_met.result) c.in_ok-met.ensures.once
    c.sync_met.ensures.device)

pub returns-clause-clock : goal.returns-clause-clock
returns-clause-clock g c =
    takes_more (g.C.Clock.to_come c.args.clock.now) (g.C.Clock.to_come c.greet.new.clock) (g.C.Clock.to_come c.sync_met.new.clock)
    (outcome_of c.sync_met.result) c.in_ok-met.ensures.once c.sync_met.ensures.clock

pub sync_met-requires-clause-own : goal.sync_met-requires-clause-own
sync_met-requires-clause-own g c =
    heads_told (g.K.Lookup.keeping c.args.keeper.now) (g.K.Lookup.keeping c.greet.new.keeper) c.in_ok-met.met c.in_ok-met.ensures.same c.in_ok-met.ensures.ready

pub returns-in_err-met-clause-keeper : goal.returns-in_err-met-clause-keeper
returns-in_err-met-clause-keeper g c = cause_passed _ _ c.in_err-met.ensures.keeper c.from_residual.ensures.1

pub returns-clause-keeper : goal.returns-clause-keeper
returns-clause-keeper g c = cause_after c.in_ok-met.ensures.keeper.goes c.sync_met.ensures.keeper
