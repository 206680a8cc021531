use Rattle.std.specs.Prelude.{◌+ℤ◌, pos, Result, Err}
use Rattle.std.proofs.Common.{refl, ap, rules, arith, w64, SFits}
use Rattle.std.proofs.lemmas.Int.{to_z-of_z}
use Rattle.ak_client.proofs.Clocks.{fault_takes}
use Rattle.ak_client.proofs.Committing.{commits_head}
use Rattle.ak_client.proofs.Ending.{asked_nothing, ends_finished, ends_refused, ends_stopped}
use Rattle.ak_client.proofs.Testing.{exits}
use Rattle.ak_client.specs.Endings.{Ends}
use Rattle.ak_client.specs.Outcomes.{outcome_at, outcome_of}
use Rattle.ak_client.specs.Syncs.{TakesMoments}
use Rattle.ak_client.specs.declared.outcomes.Outcome.{Outcome}
use Rattle.ak_client.proofs.Keeping.{cause_stopped, keeper_cause}
use Rattle.ak_exchange.proofs.Faults.{cause_ok}
use Rattle.ak_exchange.specs.Stops.{keep_stop}
use Rattle.ak_faults.proofs.Healths.{cause_after, goes_further}
use Rattle.ak_client.proofs.syncs.sync_met.Goals as goal

pub returns-in_err-mark-clause-ends : goal.returns-in_err-mark-clause-ends
returns-in_err-mark-clause-ends g c =
    exits c.from_residual.result (outcome_at (keep_stop c.in_err-mark.field-0.0))
    (λ (r : Result (Unit {0}) Outcome). Ends g.K.Keeper.spares_memory c.args.ids c.args.met.now (g.K.Lookup.keeping c.args.keeper.now) (g.K.Lookup.keeping c.mark.new.self)
    (g.W.End.health c.args.wire.now) (g.W.End.health c.args.wire.now) (g.W.Wire.state c.args.wire.now) (g.W.Wire.state c.args.wire.now) (outcome_of r))
    c.from_residual.ensures.1
    (asked_nothing g.K.Keeper.spares_memory c.args.ids c.args.met.now (g.K.Lookup.keeping c.args.keeper.now) (g.K.Lookup.keeping c.mark.new.self)
    (g.W.End.health c.args.wire.now) (g.W.Wire.state c.args.wire.now) c.in_err-mark.field-0.0)

pub returns-in_err-commit_at-in-Ok-clause-ends : goal.returns-in_err-commit_at-in-Ok-clause-ends
returns-in_err-commit_at-in-Ok-clause-ends g c =
    exits c.from_residual-in_err-commit_at-in-Ok.result (outcome_at (keep_stop c.in_err-commit_at-in-Ok.field-0.0))
    (λ (r : Result (Unit {0}) Outcome). Ends g.K.Keeper.spares_memory c.args.ids c.args.met.now (g.K.Lookup.keeping c.args.keeper.now) (g.K.Lookup.keeping c.commit_at.new.keeper)
    (g.W.End.health c.args.wire.now) (g.W.End.health c.exchange_all.new.wire) (g.W.Wire.state c.args.wire.now) (g.W.Wire.state c.exchange_all.new.wire)
    (outcome_of r))
    c.from_residual-in_err-commit_at-in-Ok.ensures.1
    (ends_refused g.K.Keeper.spares_memory c.args.ids c.args.met.now (g.K.Lookup.keeping c.args.keeper.now) (g.K.Lookup.keeping c.mark.new.self)
    (g.K.Lookup.keeping c.exchange_all.new.keeper) (g.K.Lookup.keeping c.commit_at.new.keeper)
    (g.W.End.health c.args.wire.now) (g.W.End.health c.exchange_all.new.wire) (g.W.Wire.state c.args.wire.now) (g.W.Wire.state c.exchange_all.new.wire)
    c.in_ok-mark.ensures.ok c.in-Ok.moment c.in_err-commit_at-in-Ok.field-0.0
    (λ spared is. c.in_err-commit_at-in-Ok.ensures.spares spared (ap (λ f. Err f) is)) c.in-Ok.ensures.exchanges)

pub returns-in_err-commit_at-in-Ok-clause-clock : goal.returns-in_err-commit_at-in-Ok-clause-clock
returns-in_err-commit_at-in-Ok-clause-clock g c =
    exits c.from_residual-in_err-commit_at-in-Ok.result (outcome_at (keep_stop c.in_err-commit_at-in-Ok.field-0.0))
    (λ (r : Result (Unit {0}) Outcome). TakesMoments 1 (g.C.Clock.to_come c.args.clock.now) (g.C.Clock.to_come c.args.clock.now) (outcome_of r))
    c.from_residual-in_err-commit_at-in-Ok.ensures.1
    (fault_takes c.in_err-commit_at-in-Ok.field-0.0 0 (g.C.Clock.to_come c.args.clock.now) (g.C.Clock.to_come c.args.clock.now) (omega arith) refl)

pub returns-in_ok-commit_at-in-Ok-clause-ends : goal.returns-in_ok-commit_at-in-Ok-clause-ends
returns-in_ok-commit_at-in-Ok-clause-ends g c =
    let moment : SFits w64 c.in-Ok.moment = search rules in
    let schema : SFits w64 c.args.met.now.head.schema = search rules in
    let usn : SFits w64 c.args.met.now.meta.usn = search rules in
    ends_finished g.K.Keeper.spares_memory c.args.ids c.args.met.now (g.K.Lookup.keeping c.args.keeper.now) (g.K.Lookup.keeping c.mark.new.self)
    (g.K.Lookup.keeping c.exchange_all.new.keeper) (g.K.Lookup.keeping c.commit_at.new.keeper)
    (g.W.End.health c.args.wire.now) (g.W.End.health c.exchange_all.new.wire) (g.W.Wire.state c.args.wire.now) (g.W.Wire.state c.exchange_all.new.wire)
    c.in_ok-mark.ensures.ok c.in-Ok.moment c.in-Ok.ensures.exchanges
    (rw (to_z-of_z w64 c.in-Ok.moment moment, to_z-of_z w64 c.args.met.now.head.schema schema, to_z-of_z w64 c.args.met.now.meta.usn usn)
    at c.in_ok-commit_at-in-Ok.ensures.ok)

pub returns-in_ok-commit_at-in-Ok-clause-device : goal.returns-in_ok-commit_at-in-Ok-clause-device
returns-in_ok-commit_at-in-Ok-clause-device g c =
    let moment : SFits w64 c.in-Ok.moment = search rules in
    let schema : SFits w64 c.args.met.now.head.schema = search rules in
    let usn : SFits w64 c.args.met.now.meta.usn = search rules in
    commits_head (g.K.Lookup.keeping c.args.keeper.now) (g.K.Lookup.keeping c.exchange_all.new.keeper) (g.K.Lookup.keeping c.commit_at.new.keeper)
    c.in-Ok.moment c.args.met.now.head.schema (c.args.met.now.meta.usn +ℤ pos 1) c.args.met.now.head refl c.requires.own
    (rw (to_z-of_z w64 c.in-Ok.moment moment, to_z-of_z w64 c.args.met.now.head.schema schema, to_z-of_z w64 c.args.met.now.meta.usn usn)
    at c.in_ok-commit_at-in-Ok.ensures.ok)

pub returns-in-Err-clause-ends : goal.returns-in-Err-clause-ends
returns-in-Err-clause-ends g c =
    ends_stopped g.K.Keeper.spares_memory c.args.ids c.args.met.now (g.K.Lookup.keeping c.args.keeper.now) (g.K.Lookup.keeping c.mark.new.self)
    (g.K.Lookup.keeping c.exchange_all.new.keeper) (g.K.Lookup.keeping c.after_stop.new.keeper)
    (g.W.End.health c.args.wire.now) (g.W.End.health c.exchange_all.new.wire) (g.W.Wire.state c.args.wire.now) (g.W.Wire.state c.exchange_all.new.wire)
    c.in_ok-mark.ensures.ok c.in-Err.stop c.after_stop.result c.in-Err.ensures.exchanges c.after_stop.ensures.ends

pub returns-in_err-mark-clause-keeper : goal.returns-in_err-mark-clause-keeper
returns-in_err-mark-clause-keeper g c = keeper_cause _ _ c.in_err-mark.ensures.cause c.from_residual.ensures.1

pub returns-in_err-commit_at-in-Ok-clause-keeper : goal.returns-in_err-commit_at-in-Ok-clause-keeper
returns-in_err-commit_at-in-Ok-clause-keeper g c =
    cause_after (goes_further c.in_ok-mark.ensures.cause.goes c.in-Ok.ensures.keeper.goes)
    (keeper_cause _ _ c.in_err-commit_at-in-Ok.ensures.cause c.from_residual-in_err-commit_at-in-Ok.ensures.1)

pub returns-in_ok-commit_at-in-Ok-clause-keeper : goal.returns-in_ok-commit_at-in-Ok-clause-keeper
returns-in_ok-commit_at-in-Ok-clause-keeper g c =
    cause_ok _ (goes_further (goes_further c.in_ok-mark.ensures.cause.goes c.in-Ok.ensures.keeper.goes) c.in_ok-commit_at-in-Ok.ensures.cause.goes)

pub returns-in-Err-clause-keeper : goal.returns-in-Err-clause-keeper
returns-in-Err-clause-keeper g c =
    cause_stopped c.in-Err.stop c.after_stop.result c.in_ok-mark.ensures.cause.goes c.in-Err.ensures.keeper c.back.ensures.goes
    c.after_stop.ensures.keeper c.after_stop.ensures.cause
