use Rattle.std.specs.Prelude.{List, Ok, Err, Result}
use Rattle.std.proofs.Common.{refl, ap, subst, rules, w64, SFits}
use Rattle.std.proofs.lemmas.Int.{to_z-of_z}
use Rattle.ak_client.proofs.Keeping.{keeper_cause}
use Rattle.ak_client.proofs.Testing.{exits}
use Rattle.ak_client.specs.Outcomes.{outcome_at, outcome_of}
use Rattle.ak_exchange.proofs.Faults.{cause_ok, cause_passed}
use Rattle.ak_exchange.specs.Stops.{keep_stop}
use Rattle.ak_client.specs.declared.outcomes.Outcome.{Outcome}
use Rattle.ak_faults.proofs.Healths.{cause_after, cause_before, goes_further}
use Rattle.ak_keep.specs.Keepers.{Keeping}
use Rattle.ak_messages.specs.declared.requests.Ask.{Ask}
use Rattle.ak_transfers.proofs.Sending.{kept, not_asked, stopped, unkept}
use Rattle.ak_transfers.specs.Transfers.{MayAsk, upload_errand}
use Rattle.ak_transfers.specs.UploadParts.{Sends}
use Rattle.ak_transfers.specs.declared.asks.UploadMoments.{UploadMoments}
use Rattle.ak_transfers.proofs.uploads.upload_met.Goals as goal

pub returns-in_err-mark-clause-asks : goal.returns-in_err-mark-clause-asks
returns-in_err-mark-clause-asks g c =
    exits c.from_residual.result (outcome_at (keep_stop c.in_err-mark.field-0.0)) (λ (r : Result (Unit {0}) Outcome). (asked : List Ask) × MayAsk (upload_errand g.K.Keeper.spares_memory (g.K.Lookup.keeping c.args.keeper.now) (g.K.Lookup.keeping c.mark.new.self)) c.args.ids c.args.moment asked (record { health = g.W.End.health c.args.wire.now; wire = g.W.Wire.state c.args.wire.now }) (record { health = g.W.End.health c.args.wire.now; wire = g.W.Wire.state c.args.wire.now }) (outcome_of r))
    c.from_residual.ensures.1
    (not_asked g.K.Keeper.spares_memory c.args.ids c.args.moment (g.K.Lookup.keeping c.args.keeper.now) (g.K.Lookup.keeping c.mark.new.self) (record { health = g.W.End.health c.args.wire.now; wire = g.W.Wire.state c.args.wire.now }) c.in_err-mark.field-0.0)

pub returns-in_err-commit_at-in-Ok-clause-asks : goal.returns-in_err-commit_at-in-Ok-clause-asks
returns-in_err-commit_at-in-Ok-clause-asks g c =
    exits c.from_residual-in_err-commit_at-in-Ok.result (outcome_at (keep_stop c.in_err-commit_at-in-Ok.field-0.0)) (λ (r : Result (Unit {0}) Outcome). (asked : List Ask) × MayAsk (upload_errand g.K.Keeper.spares_memory (g.K.Lookup.keeping c.args.keeper.now) (g.K.Lookup.keeping c.commit_at.new.keeper)) c.args.ids c.args.moment asked (record { health = g.W.End.health c.args.wire.now; wire = g.W.Wire.state c.args.wire.now }) (record { health = g.W.End.health c.send.new.wire; wire = g.W.Wire.state c.send.new.wire }) (outcome_of r))
    c.from_residual-in_err-commit_at-in-Ok.ensures.1
    (unkept g.K.Keeper.spares_memory c.args.ids c.args.moment (g.K.Lookup.keeping c.args.keeper.now) (g.K.Lookup.keeping c.commit_at.new.keeper) (record { health = g.W.End.health c.args.wire.now; wire = g.W.Wire.state c.args.wire.now }) (record { health = g.W.End.health c.send.new.wire; wire = g.W.Wire.state c.send.new.wire }) c.requires.sound (g.K.Lookup.keeping c.send.new.keeper) c.in-Ok.told c.in_err-commit_at-in-Ok.field-0.0
    (λ spares is. c.in_err-commit_at-in-Ok.ensures.spares spares (ap (λ f. Err f) is))
    (subst (λ (k : Keeping). Sends c.args.ids c.args.moment k (g.K.Lookup.keeping c.send.new.keeper) (record { health = g.W.End.health c.args.wire.now; wire = g.W.Wire.state c.args.wire.now }) (record { health = g.W.End.health c.send.new.wire; wire = g.W.Wire.state c.send.new.wire }) (Ok c.in-Ok.told)) c.in_ok-mark.ensures.ok
    (rw (to_z-of_z w64 c.args.moment c.ranges.moment) at c.in-Ok.ensures.sends)))

pub returns-in_ok-commit_at-in-Ok-clause-asks : goal.returns-in_ok-commit_at-in-Ok-clause-asks
returns-in_ok-commit_at-in-Ok-clause-asks g c =
    let moment : SFits w64 c.in-Ok.told.moment = search rules in
    let schema : SFits w64 c.in-Ok.told.schema = search rules in
    kept g.K.Keeper.spares_memory c.args.ids c.args.moment (g.K.Lookup.keeping c.args.keeper.now) (g.K.Lookup.keeping c.commit_at.new.keeper) (record { health = g.W.End.health c.args.wire.now; wire = g.W.Wire.state c.args.wire.now }) (record { health = g.W.End.health c.send.new.wire; wire = g.W.Wire.state c.send.new.wire }) c.requires.sound (g.K.Lookup.keeping c.send.new.keeper) c.in-Ok.told
    (subst (λ (k : Keeping). Sends c.args.ids c.args.moment k (g.K.Lookup.keeping c.send.new.keeper) (record { health = g.W.End.health c.args.wire.now; wire = g.W.Wire.state c.args.wire.now }) (record { health = g.W.End.health c.send.new.wire; wire = g.W.Wire.state c.send.new.wire }) (Ok c.in-Ok.told)) c.in_ok-mark.ensures.ok
    (rw (to_z-of_z w64 c.args.moment c.ranges.moment) at c.in-Ok.ensures.sends))
    (rw (to_z-of_z w64 c.in-Ok.told.moment moment, to_z-of_z w64 c.in-Ok.told.schema schema) at c.in_ok-commit_at-in-Ok.ensures.ok)

pub returns-in-Err-clause-asks : goal.returns-in-Err-clause-asks
returns-in-Err-clause-asks g c =
    stopped g.K.Keeper.spares_memory c.args.ids c.args.moment (g.K.Lookup.keeping c.args.keeper.now) (g.K.Lookup.keeping c.back.new.self) (record { health = g.W.End.health c.args.wire.now; wire = g.W.Wire.state c.args.wire.now }) (record { health = g.W.End.health c.send.new.wire; wire = g.W.Wire.state c.send.new.wire }) c.requires.sound (g.K.Lookup.keeping c.send.new.keeper) c.in-Err.outcome
    (subst (λ (k : Keeping). Sends c.args.ids c.args.moment k (g.K.Lookup.keeping c.send.new.keeper) (record { health = g.W.End.health c.args.wire.now; wire = g.W.Wire.state c.args.wire.now }) (record { health = g.W.End.health c.send.new.wire; wire = g.W.Wire.state c.send.new.wire }) (Err c.in-Err.outcome)) c.in_ok-mark.ensures.ok
    (rw (to_z-of_z w64 c.args.moment c.ranges.moment) at c.in-Err.ensures.sends))

pub returns-in_err-mark-clause-keeper : goal.returns-in_err-mark-clause-keeper
returns-in_err-mark-clause-keeper g c = keeper_cause _ _ c.in_err-mark.ensures.cause c.from_residual.ensures.1

pub returns-in_err-commit_at-in-Ok-clause-keeper : goal.returns-in_err-commit_at-in-Ok-clause-keeper
returns-in_err-commit_at-in-Ok-clause-keeper g c =
    cause_after (goes_further c.in_ok-mark.ensures.cause.goes c.in-Ok.ensures.keeper.goes)
    (keeper_cause _ _ c.in_err-commit_at-in-Ok.ensures.cause c.from_residual-in_err-commit_at-in-Ok.ensures.1)

pub returns-in_ok-commit_at-in-Ok-clause-keeper : goal.returns-in_ok-commit_at-in-Ok-clause-keeper
returns-in_ok-commit_at-in-Ok-clause-keeper g c =
    cause_ok _ (goes_further (goes_further c.in_ok-mark.ensures.cause.goes c.in-Ok.ensures.keeper.goes) c.in_ok-commit_at-in-Ok.ensures.cause.goes)

pub returns-in-Err-clause-keeper : goal.returns-in-Err-clause-keeper
returns-in-Err-clause-keeper g c =
    cause_before (cause_after c.in_ok-mark.ensures.cause.goes (cause_passed {U = UploadMoments} _ c.in-Err.outcome c.in-Err.ensures.keeper refl)) c.back.ensures.goes
