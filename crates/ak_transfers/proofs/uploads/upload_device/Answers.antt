use Rattle.std.specs.Prelude.{◌≡◌, List, [], None, Result}
use Rattle.std.proofs.Common.{refl, sym, subst, rules, inl, w64, SFits}
use Rattle.std.proofs.lemmas.Int.{to_z-of_z}
use Rattle.ak_client.proofs.Testing.{exits}
use Rattle.ak_client.specs.Outcomes.{outcome_of}
use Rattle.ak_exchange.proofs.Faults.{cause_passed, cause_unlike}
use Rattle.ak_client.specs.declared.outcomes.Outcome.{Outcome}
use Rattle.ak_faults.proofs.Healths.{cause_after, goes_nowhere}
use Rattle.ak_keep.specs.Keepers.{Keeping, WhereTold}
use Rattle.ak_merge.specs.Soundness.{first_fault}
use Rattle.ak_messages.specs.declared.requests.Ask.{Ask}
use Rattle.ak_transfers.proofs.Greeted.{greeting_unkept, met_on, unmet}
use Rattle.ak_transfers.proofs.Sending.{rows_stop}
use Rattle.ak_transfers.specs.Transfers.{IsTransfer, MayAsk, upload_errand}
use Rattle.ak_transfers.proofs.uploads.upload_device.Goals as goal

pub returns-in_err-meta-clause-transfer : goal.returns-in_err-meta-clause-transfer
returns-in_err-meta-clause-transfer g c =
    exits c.from_residual.result c.in_err-meta.field-0.0 (λ (r : Result (Unit {0}) Outcome). (asked : List Ask) × IsTransfer (upload_errand g.K.Keeper.spares_memory (g.K.Lookup.keeping c.args.keeper.now) (g.K.Lookup.keeping c.args.keeper.now)) c.args.ids asked (record { line = record { health = g.W.End.health c.args.wire.now; wire = g.W.Wire.state c.args.wire.now }; moments = g.C.Clock.to_come c.args.clock.now }) (record { line = record { health = g.W.End.health c.greet.new.wire; wire = g.W.Wire.state c.greet.new.wire }; moments = g.C.Clock.to_come c.greet.new.clock }) (outcome_of r))
    c.from_residual.ensures.1
    ([], unmet (upload_errand g.K.Keeper.spares_memory (g.K.Lookup.keeping c.args.keeper.now) (g.K.Lookup.keeping c.args.keeper.now)) c.args.ids (record { line = record { health = g.W.End.health c.args.wire.now; wire = g.W.Wire.state c.args.wire.now }; moments = g.C.Clock.to_come c.args.clock.now }) (record { line = record { health = g.W.End.health c.greet.new.wire; wire = g.W.Wire.state c.greet.new.wire }; moments = g.C.Clock.to_come c.greet.new.clock }) c.in_err-meta.field-0.0 c.in_err-meta.ensures)

pub returns-in_err-test_rows-clause-transfer : goal.returns-in_err-test_rows-clause-transfer
returns-in_err-test_rows-clause-transfer g c =
    exits c.from_residual-in_err-test_rows.result c.in_err-test_rows.field-0.0 (λ (r : Result (Unit {0}) Outcome). (asked : List Ask) × IsTransfer (upload_errand g.K.Keeper.spares_memory (g.K.Lookup.keeping c.args.keeper.now) (g.K.Lookup.keeping c.test_rows.new.keeper)) c.args.ids asked (record { line = record { health = g.W.End.health c.args.wire.now; wire = g.W.Wire.state c.args.wire.now }; moments = g.C.Clock.to_come c.args.clock.now }) (record { line = record { health = g.W.End.health c.greet.new.wire; wire = g.W.Wire.state c.greet.new.wire }; moments = g.C.Clock.to_come c.greet.new.clock }) (outcome_of r))
    c.from_residual-in_err-test_rows.ensures.1 (
      [],
      met_on (upload_errand g.K.Keeper.spares_memory (g.K.Lookup.keeping c.args.keeper.now) (g.K.Lookup.keeping c.test_rows.new.keeper)) c.args.ids (record { line = record { health = g.W.End.health c.args.wire.now; wire = g.W.Wire.state c.args.wire.now }; moments = g.C.Clock.to_come c.args.clock.now }) (record { line = record { health = g.W.End.health c.greet.new.wire; wire = g.W.Wire.state c.greet.new.wire }; moments = g.C.Clock.to_come c.greet.new.clock }) (record { health = g.W.End.health c.greet.new.wire; wire = g.W.Wire.state c.greet.new.wire }) c.in_ok-meta.meta [] c.in_err-test_rows.field-0.0 c.in_ok-meta.ensures
          (inl (record { none = refl; same = refl }, rows_stop (g.K.Lookup.keeping c.args.keeper.now) c.in_err-test_rows.field-0.0 c.in_err-test_rows.ensures.fault)),
    )

pub returns-clause-transfer : goal.returns-clause-transfer
returns-clause-transfer g c =
    let fits : SFits w64 c.in_ok-meta.meta.moment = search rules in
    let asks = rw (to_z-of_z w64 c.in_ok-meta.meta.moment fits) at c.upload_met.ensures.asks in (
      asks.0,
      met_on (upload_errand g.K.Keeper.spares_memory (g.K.Lookup.keeping c.args.keeper.now) (g.K.Lookup.keeping c.upload_met.new.keeper)) c.args.ids (record { line = record { health = g.W.End.health c.args.wire.now; wire = g.W.Wire.state c.args.wire.now }; moments = g.C.Clock.to_come c.args.clock.now }) (record { line = record { health = g.W.End.health c.greet.new.wire; wire = g.W.Wire.state c.greet.new.wire }; moments = g.C.Clock.to_come c.greet.new.clock })
          (record { health = g.W.End.health c.upload_met.new.wire; wire = g.W.Wire.state c.upload_met.new.wire })
          c.in_ok-meta.meta asks.0 (outcome_of c.upload_met.result) c.in_ok-meta.ensures
          (subst (λ (k : Keeping). MayAsk (upload_errand g.K.Keeper.spares_memory k (g.K.Lookup.keeping c.upload_met.new.keeper)) c.args.ids c.in_ok-meta.meta.moment asks.0
          (record { health = g.W.End.health c.greet.new.wire; wire = g.W.Wire.state c.greet.new.wire })
          (record { health = g.W.End.health c.upload_met.new.wire; wire = g.W.Wire.state c.upload_met.new.wire }) (outcome_of c.upload_met.result))
          c.in_ok-test_rows.ensures.same asks.1),
    )

pub upload_met-requires-clause-sound : goal.upload_met-requires-clause-sound
upload_met-requires-clause-sound g c =
    subst (λ (k : Keeping). WhereTold k (λ h. first_fault h.rows ≡ None)) (sym c.in_ok-test_rows.ensures.same) c.in_ok-test_rows.ensures.sound

pub returns-in_err-meta-clause-keeper : goal.returns-in_err-meta-clause-keeper
returns-in_err-meta-clause-keeper g c =
    cause_passed {U = Unit {0}} _ c.in_err-meta.field-0.0 (cause_unlike _ (goes_nowhere _) (greeting_unkept c.args.ids (record { line = record { health = g.W.End.health c.args.wire.now; wire = g.W.Wire.state c.args.wire.now }; moments = g.C.Clock.to_come c.args.clock.now }) (record { line = record { health = g.W.End.health c.greet.new.wire; wire = g.W.Wire.state c.greet.new.wire }; moments = g.C.Clock.to_come c.greet.new.clock }) c.in_err-meta.field-0.0 c.in_err-meta.ensures))
    c.from_residual.ensures.1

pub returns-in_err-test_rows-clause-keeper : goal.returns-in_err-test_rows-clause-keeper
returns-in_err-test_rows-clause-keeper g c = cause_passed _ _ c.in_err-test_rows.ensures.keeper c.from_residual-in_err-test_rows.ensures.1

pub returns-clause-keeper : goal.returns-clause-keeper
returns-clause-keeper g c = cause_after c.in_ok-test_rows.ensures.keeper.goes c.upload_met.ensures.keeper
