use Rattle.std.specs.Prelude.{List, [], Result}
use Rattle.std.proofs.Common.{sym, subst, rules, w64, SFits}
use Rattle.std.proofs.lemmas.Int.{to_z-of_z}
use Rattle.ak_client.proofs.Keeping.{keeper_cause, wire_cause}
use Rattle.ak_client.proofs.Testing.{exits}
use Rattle.ak_client.specs.Outcomes.{outcome_at, outcome_of}
use Rattle.ak_exchange.proofs.Faults.{cause_ok, cause_passed, cause_unlike}
use Rattle.ak_exchange.specs.Stops.{keep_stop, wire_stop}
use Rattle.ak_client.specs.declared.outcomes.Outcome.{Outcome}
use Rattle.ak_faults.proofs.Healths.{goes_nowhere}
use Rattle.ak_messages.specs.declared.requests.Ask.{Ask}
use Rattle.ak_messages.specs.declared.requests.Request.{Request}
use Rattle.ak_transfers.proofs.Downloading.{held, held_unkept, not_granted, not_held, not_kept}
use Rattle.ak_transfers.proofs.Greeted.{greeting_unkept, unmet}
use Rattle.ak_transfers.specs.Forms.{whole_in}
use Rattle.ak_transfers.specs.Transfers.{IsTransfer, download_errand}
use Rattle.ak_transfers.specs.UploadParts.{MayBePut}
use Rattle.ak_client_wire.specs.Tries.{Answered}
use Rattle.ak_transfers.proofs.downloads.download_device.Goals as goal

pub put_in_place-requires-clause-rows : goal.put_in_place-requires-clause-rows
put_in_place-requires-clause-rows g c =
    subst MayBePut (sym c.in_ok-held.ensures.rows)
    (record { checked = c.in_ok-held.ensures.held.rows; distinct = c.in_ok-held.ensures.held.distinct })

pub returns-in_err-meta-clause-transfer : goal.returns-in_err-meta-clause-transfer
returns-in_err-meta-clause-transfer g c =
    exits c.from_residual.result c.in_err-meta.field-0.0 (λ (r : Result (Unit {0}) Outcome). (asked : List Ask) × IsTransfer (download_errand (g.K.Lookup.keeping c.args.keeper.now) (g.K.Lookup.keeping c.args.keeper.now)) c.args.ids asked (record { line = record { health = g.W.End.health c.args.wire.now; wire = g.W.Wire.state c.args.wire.now }; moments = g.C.Clock.to_come c.args.clock.now }) (record { line = record { health = g.W.End.health c.greet.new.wire; wire = g.W.Wire.state c.greet.new.wire }; moments = g.C.Clock.to_come c.greet.new.clock }) (outcome_of r))
    c.from_residual.ensures.1
    ([], unmet (download_errand (g.K.Lookup.keeping c.args.keeper.now) (g.K.Lookup.keeping c.args.keeper.now)) c.args.ids (record { line = record { health = g.W.End.health c.args.wire.now; wire = g.W.Wire.state c.args.wire.now }; moments = g.C.Clock.to_come c.args.clock.now }) (record { line = record { health = g.W.End.health c.greet.new.wire; wire = g.W.Wire.state c.greet.new.wire }; moments = g.C.Clock.to_come c.greet.new.clock }) c.in_err-meta.field-0.0 c.in_err-meta.ensures)

pub returns-in_err-whole-clause-transfer : goal.returns-in_err-whole-clause-transfer
returns-in_err-whole-clause-transfer g c =
    let fits : SFits w64 c.in_ok-meta.meta.moment = search rules in
    exits c.from_residual-in_err-whole.result (outcome_at (wire_stop c.in_err-whole.field-0.0)) (λ (r : Result (Unit {0}) Outcome). (asked : List Ask) × IsTransfer (download_errand (g.K.Lookup.keeping c.args.keeper.now) (g.K.Lookup.keeping c.args.keeper.now)) c.args.ids asked (record { line = record { health = g.W.End.health c.args.wire.now; wire = g.W.Wire.state c.args.wire.now }; moments = g.C.Clock.to_come c.args.clock.now }) (record { line = record { health = g.W.End.health c.ask_whole.new.wire; wire = g.W.Wire.state c.ask_whole.new.wire }; moments = g.C.Clock.to_come c.greet.new.clock }) (outcome_of r))
    c.from_residual-in_err-whole.ensures.1
    (not_granted c.args.ids (g.K.Lookup.keeping c.args.keeper.now) (g.K.Lookup.keeping c.args.keeper.now) (record { line = record { health = g.W.End.health c.args.wire.now; wire = g.W.Wire.state c.args.wire.now }; moments = g.C.Clock.to_come c.args.clock.now }) (record { line = record { health = g.W.End.health c.greet.new.wire; wire = g.W.Wire.state c.greet.new.wire }; moments = g.C.Clock.to_come c.greet.new.clock }) (record { health = g.W.End.health c.ask_whole.new.wire; wire = g.W.Wire.state c.ask_whole.new.wire }) c.in_ok-meta.meta c.in_ok-meta.ensures c.ask_whole.result (subst (λ (request : Request). Answered (g.W.End.health c.greet.new.wire) (g.W.End.health c.ask_whole.new.wire) (g.W.Wire.state c.greet.new.wire) (g.W.Wire.state c.ask_whole.new.wire) request whole_in c.ask_whole.result)
    (rw (to_z-of_z w64 c.in_ok-meta.meta.moment fits) at c.first_request-request.ensures) c.ask_whole.ensures) c.in_err-whole.field-0.0 c.in_err-whole.was)

pub returns-in_err-held-clause-transfer : goal.returns-in_err-held-clause-transfer
returns-in_err-held-clause-transfer g c =
    let fits : SFits w64 c.in_ok-meta.meta.moment = search rules in
    exits c.from_residual-in_err-held.result c.in_err-held.field-0.0 (λ (r : Result (Unit {0}) Outcome). (asked : List Ask) × IsTransfer (download_errand (g.K.Lookup.keeping c.args.keeper.now) (g.K.Lookup.keeping c.args.keeper.now)) c.args.ids asked (record { line = record { health = g.W.End.health c.args.wire.now; wire = g.W.Wire.state c.args.wire.now }; moments = g.C.Clock.to_come c.args.clock.now }) (record { line = record { health = g.W.End.health c.ask_whole.new.wire; wire = g.W.Wire.state c.ask_whole.new.wire }; moments = g.C.Clock.to_come c.greet.new.clock }) (outcome_of r))
    c.from_residual-in_err-held.ensures.1
    (not_held c.args.ids (g.K.Lookup.keeping c.args.keeper.now) (g.K.Lookup.keeping c.args.keeper.now) (record { line = record { health = g.W.End.health c.args.wire.now; wire = g.W.Wire.state c.args.wire.now }; moments = g.C.Clock.to_come c.args.clock.now }) (record { line = record { health = g.W.End.health c.greet.new.wire; wire = g.W.Wire.state c.greet.new.wire }; moments = g.C.Clock.to_come c.greet.new.clock }) (record { health = g.W.End.health c.ask_whole.new.wire; wire = g.W.Wire.state c.ask_whole.new.wire }) c.in_ok-meta.meta c.in_ok-meta.ensures c.ask_whole.result (subst (λ (request : Request). Answered (g.W.End.health c.greet.new.wire) (g.W.End.health c.ask_whole.new.wire) (g.W.Wire.state c.greet.new.wire) (g.W.Wire.state c.ask_whole.new.wire) request whole_in c.ask_whole.result)
    (rw (to_z-of_z w64 c.in_ok-meta.meta.moment fits) at c.first_request-request.ensures) c.ask_whole.ensures) c.in_ok-whole.whole c.in_ok-whole.was c.in_err-held.field-0.0 c.in_err-held.ensures.refused)

pub returns-in_err-put_in_place-clause-transfer : goal.returns-in_err-put_in_place-clause-transfer
returns-in_err-put_in_place-clause-transfer g c =
    let fits : SFits w64 c.in_ok-meta.meta.moment = search rules in
    exits c.from_residual-in_err-put_in_place.result (outcome_at (keep_stop c.in_err-put_in_place.field-0.0)) (λ (r : Result (Unit {0}) Outcome). (asked : List Ask) × IsTransfer (download_errand (g.K.Lookup.keeping c.args.keeper.now) (g.K.Lookup.keeping c.put_in_place.new.keeper)) c.args.ids asked (record { line = record { health = g.W.End.health c.args.wire.now; wire = g.W.Wire.state c.args.wire.now }; moments = g.C.Clock.to_come c.args.clock.now }) (record { line = record { health = g.W.End.health c.ask_whole.new.wire; wire = g.W.Wire.state c.ask_whole.new.wire }; moments = g.C.Clock.to_come c.greet.new.clock }) (outcome_of r))
    c.from_residual-in_err-put_in_place.ensures.1
    (not_kept c.args.ids (g.K.Lookup.keeping c.args.keeper.now) (g.K.Lookup.keeping c.put_in_place.new.keeper) (record { line = record { health = g.W.End.health c.args.wire.now; wire = g.W.Wire.state c.args.wire.now }; moments = g.C.Clock.to_come c.args.clock.now }) (record { line = record { health = g.W.End.health c.greet.new.wire; wire = g.W.Wire.state c.greet.new.wire }; moments = g.C.Clock.to_come c.greet.new.clock }) (record { health = g.W.End.health c.ask_whole.new.wire; wire = g.W.Wire.state c.ask_whole.new.wire }) c.in_ok-meta.meta c.in_ok-meta.ensures c.ask_whole.result (subst (λ (request : Request). Answered (g.W.End.health c.greet.new.wire) (g.W.End.health c.ask_whole.new.wire) (g.W.Wire.state c.greet.new.wire) (g.W.Wire.state c.ask_whole.new.wire) request whole_in c.ask_whole.result)
    (rw (to_z-of_z w64 c.in_ok-meta.meta.moment fits) at c.first_request-request.ensures) c.ask_whole.ensures) c.in_ok-whole.whole c.in_ok-whole.was c.in_err-put_in_place.field-0.0)

pub returns-clause-transfer : goal.returns-clause-transfer
returns-clause-transfer g c =
    let fits : SFits w64 c.in_ok-meta.meta.moment = search rules in
    held c.args.ids (g.K.Lookup.keeping c.args.keeper.now) (g.K.Lookup.keeping c.put_in_place.new.keeper) (record { line = record { health = g.W.End.health c.args.wire.now; wire = g.W.Wire.state c.args.wire.now }; moments = g.C.Clock.to_come c.args.clock.now }) (record { line = record { health = g.W.End.health c.greet.new.wire; wire = g.W.Wire.state c.greet.new.wire }; moments = g.C.Clock.to_come c.greet.new.clock }) (record { health = g.W.End.health c.ask_whole.new.wire; wire = g.W.Wire.state c.ask_whole.new.wire }) c.in_ok-meta.meta c.in_ok-meta.ensures c.ask_whole.result (subst (λ (request : Request). Answered (g.W.End.health c.greet.new.wire) (g.W.End.health c.ask_whole.new.wire) (g.W.Wire.state c.greet.new.wire) (g.W.Wire.state c.ask_whole.new.wire) request whole_in c.ask_whole.result)
    (rw (to_z-of_z w64 c.in_ok-meta.meta.moment fits) at c.first_request-request.ensures) c.ask_whole.ensures) c.in_ok-whole.whole c.in_ok-whole.was c.in_ok-held.ensures.held
    c.in_ok-held.held.rows c.in_ok-held.held.head c.in_ok-held.ensures.rows c.in_ok-held.ensures.head c.in_ok-put_in_place.ensures.ok

pub returns-in_err-meta-clause-keeper : goal.returns-in_err-meta-clause-keeper
returns-in_err-meta-clause-keeper g c =
    cause_passed {U = Unit {0}} _ c.in_err-meta.field-0.0 (cause_unlike _ (goes_nowhere _) (greeting_unkept c.args.ids (record { line = record { health = g.W.End.health c.args.wire.now; wire = g.W.Wire.state c.args.wire.now }; moments = g.C.Clock.to_come c.args.clock.now }) (record { line = record { health = g.W.End.health c.greet.new.wire; wire = g.W.Wire.state c.greet.new.wire }; moments = g.C.Clock.to_come c.greet.new.clock }) c.in_err-meta.field-0.0 c.in_err-meta.ensures))
    c.from_residual.ensures.1

pub returns-in_err-whole-clause-keeper : goal.returns-in_err-whole-clause-keeper
returns-in_err-whole-clause-keeper g c = wire_cause _ _ (goes_nowhere _) c.from_residual-in_err-whole.ensures.1

pub returns-in_err-held-clause-keeper : goal.returns-in_err-held-clause-keeper
returns-in_err-held-clause-keeper g c =
    cause_passed {U = Unit {0}} _ c.in_err-held.field-0.0 (cause_unlike _ (goes_nowhere _) (held_unkept c.in_err-held.field-0.0 _ c.in_err-held.ensures.refused))
    c.from_residual-in_err-held.ensures.1

pub returns-in_err-put_in_place-clause-keeper : goal.returns-in_err-put_in_place-clause-keeper
returns-in_err-put_in_place-clause-keeper g c = keeper_cause _ _ c.in_err-put_in_place.ensures.cause c.from_residual-in_err-put_in_place.ensures.1

pub returns-clause-keeper : goal.returns-clause-keeper
returns-clause-keeper g c = cause_ok _ c.in_ok-put_in_place.ensures.cause.goes
