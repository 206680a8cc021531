use Rattle.std.proofs.Common.{sym, ap, subst, ◌∙◌}
use Rattle.ak_client.proofs.Keeping.{kept_cause}
use Rattle.ak_client.specs.Outcomes.{HasLostThrice, HasOutcomeCause, ShowsRefusal, outcome_of}
use Rattle.ak_client.specs.declared.outcomes.Outcome.{Outcome}
use Rattle.ak_client.specs.declared.outcomes.Outcome.TheVariants as outcomes
use Rattle.ak_transfers.proofs.Ends.{goes, lost_cause, lost_thrice, shows_refusal, stays, upload_may, upload_plain}
use Rattle.ak_transfers.proofs.Uploaded.{uploads_told}
use Rattle.ak_transfers.specs.Transfers.{IsUpload, StaysUnlessFinished, may_end_upload, upload_errand}
use Rattle.ak_transfers.proofs.uploads.upload_over.Goals as goal

pub returns-clause-uploads : goal.returns-clause-uploads
returns-clause-uploads g c =
    subst (λ (outcome : Outcome). IsUpload g.K.Keeper.spares_memory c.args.ids (g.K.Lookup.keeping c.args.keeper.now) (g.K.Lookup.keeping c.upload_device.new.keeper) (record { line = record { health = g.W.End.health c.args.wire.now; wire = g.W.Wire.state c.args.wire.now }; moments = g.C.Clock.to_come c.args.clock.now }) (record { line = record { health = g.W.End.health c.upload_device.new.wire; wire = g.W.Wire.state c.upload_device.new.wire }; moments = g.C.Clock.to_come c.upload_device.new.clock }) outcome)
    (sym c.outcome_of.ensures) (record {
      asked = c.upload_device.ensures.transfer.0;
      transfer = c.upload_device.ensures.transfer.1;
      told = uploads_told g.K.Keeper.spares_memory c.args.ids (g.K.Lookup.keeping c.args.keeper.now) (g.K.Lookup.keeping c.upload_device.new.keeper) (record { line = record { health = g.W.End.health c.args.wire.now; wire = g.W.Wire.state c.args.wire.now }; moments = g.C.Clock.to_come c.args.clock.now }) (record { line = record { health = g.W.End.health c.upload_device.new.wire; wire = g.W.Wire.state c.upload_device.new.wire }; moments = g.C.Clock.to_come c.upload_device.new.clock }) (outcome_of c.upload_device.result) c.upload_device.ensures.transfer.0 c.upload_device.ensures.transfer.1 c.held-known.ensures.known;
    })

pub returns-clause-device : goal.returns-clause-device
returns-clause-device g c =
    subst (λ (outcome : Outcome). StaysUnlessFinished (g.K.Lookup.keeping c.args.keeper.now) (g.K.Lookup.keeping c.upload_device.new.keeper) outcome) (sym c.outcome_of.ensures)
    (stays (g.K.Lookup.keeping c.args.keeper.now) (g.K.Lookup.keeping c.upload_device.new.keeper) c.upload_device.result c.upload_device.ensures.device)

pub returns-clause-ends : goal.returns-clause-ends
returns-clause-ends g c =
    ap may_end_upload c.outcome_of.ensures ∙ upload_may g.K.Keeper.spares_memory (g.K.Lookup.keeping c.args.keeper.now) (g.K.Lookup.keeping c.upload_device.new.keeper) c.args.ids c.upload_device.ensures.transfer.0 (record { line = record { health = g.W.End.health c.args.wire.now; wire = g.W.Wire.state c.args.wire.now }; moments = g.C.Clock.to_come c.args.clock.now }) (record { line = record { health = g.W.End.health c.upload_device.new.wire; wire = g.W.Wire.state c.upload_device.new.wire }; moments = g.C.Clock.to_come c.upload_device.new.clock }) (outcome_of c.upload_device.result) c.upload_device.ensures.transfer.1

pub returns-clause-keeper : goal.returns-clause-keeper
returns-clause-keeper g c = c.upload_device.ensures.keeper.goes

pub returns-clause-kept : goal.returns-clause-kept
returns-clause-kept g c =
    subst (λ (outcome : Outcome). HasOutcomeCause outcomes.Keep (g.K.Lookup.health c.args.keeper.now) (g.K.Lookup.health c.upload_device.new.keeper) outcome)
    (sym c.outcome_of.ensures) (kept_cause c.upload_device.result c.upload_device.ensures.keeper)

pub returns-clause-lost : goal.returns-clause-lost
returns-clause-lost g c =
    subst (λ (outcome : Outcome). HasOutcomeCause outcomes.Lost (g.W.End.health c.args.wire.now) (g.W.End.health c.upload_device.new.wire) outcome)
    (sym c.outcome_of.ensures) (lost_cause (upload_errand g.K.Keeper.spares_memory (g.K.Lookup.keeping c.args.keeper.now) (g.K.Lookup.keeping c.upload_device.new.keeper)) c.args.ids c.upload_device.ensures.transfer.0 (record { line = record { health = g.W.End.health c.args.wire.now; wire = g.W.Wire.state c.args.wire.now }; moments = g.C.Clock.to_come c.args.clock.now }) (record { line = record { health = g.W.End.health c.upload_device.new.wire; wire = g.W.Wire.state c.upload_device.new.wire }; moments = g.C.Clock.to_come c.upload_device.new.clock }) (outcome_of c.upload_device.result) c.upload_device.ensures.transfer.1 (upload_plain g.K.Keeper.spares_memory (g.K.Lookup.keeping c.args.keeper.now) (g.K.Lookup.keeping c.upload_device.new.keeper)))

pub returns-clause-thrice : goal.returns-clause-thrice
returns-clause-thrice g c =
    subst (λ (outcome : Outcome). HasLostThrice (g.W.End.health c.args.wire.now) (g.W.End.health c.upload_device.new.wire)
    (g.W.Wire.state c.args.wire.now).silence (g.W.Wire.state c.upload_device.new.wire).silence outcome)
    (sym c.outcome_of.ensures) (lost_thrice (upload_errand g.K.Keeper.spares_memory (g.K.Lookup.keeping c.args.keeper.now) (g.K.Lookup.keeping c.upload_device.new.keeper)) c.args.ids c.upload_device.ensures.transfer.0 (record { line = record { health = g.W.End.health c.args.wire.now; wire = g.W.Wire.state c.args.wire.now }; moments = g.C.Clock.to_come c.args.clock.now }) (record { line = record { health = g.W.End.health c.upload_device.new.wire; wire = g.W.Wire.state c.upload_device.new.wire }; moments = g.C.Clock.to_come c.upload_device.new.clock }) (outcome_of c.upload_device.result) c.upload_device.ensures.transfer.1 (upload_plain g.K.Keeper.spares_memory (g.K.Lookup.keeping c.args.keeper.now) (g.K.Lookup.keeping c.upload_device.new.keeper)))

pub returns-clause-shown : goal.returns-clause-shown
returns-clause-shown g c =
    subst (λ (outcome : Outcome). ShowsRefusal (g.W.Wire.state c.args.wire.now).reading (g.W.Wire.state c.upload_device.new.wire).reading
    (g.W.Wire.state c.upload_device.new.wire).said outcome)
    (sym c.outcome_of.ensures) (shows_refusal (upload_errand g.K.Keeper.spares_memory (g.K.Lookup.keeping c.args.keeper.now) (g.K.Lookup.keeping c.upload_device.new.keeper)) c.args.ids c.upload_device.ensures.transfer.0 (record { line = record { health = g.W.End.health c.args.wire.now; wire = g.W.Wire.state c.args.wire.now }; moments = g.C.Clock.to_come c.args.clock.now }) (record { line = record { health = g.W.End.health c.upload_device.new.wire; wire = g.W.Wire.state c.upload_device.new.wire }; moments = g.C.Clock.to_come c.upload_device.new.clock }) (outcome_of c.upload_device.result) c.upload_device.ensures.transfer.1 (upload_plain g.K.Keeper.spares_memory (g.K.Lookup.keeping c.args.keeper.now) (g.K.Lookup.keeping c.upload_device.new.keeper)))

pub returns-clause-wire : goal.returns-clause-wire
returns-clause-wire g c = (goes (upload_errand g.K.Keeper.spares_memory (g.K.Lookup.keeping c.args.keeper.now) (g.K.Lookup.keeping c.upload_device.new.keeper)) c.args.ids c.upload_device.ensures.transfer.0 (record { line = record { health = g.W.End.health c.args.wire.now; wire = g.W.Wire.state c.args.wire.now }; moments = g.C.Clock.to_come c.args.clock.now }) (record { line = record { health = g.W.End.health c.upload_device.new.wire; wire = g.W.Wire.state c.upload_device.new.wire }; moments = g.C.Clock.to_come c.upload_device.new.clock }) (outcome_of c.upload_device.result) c.upload_device.ensures.transfer.1).0

pub returns-clause-reading : goal.returns-clause-reading
returns-clause-reading g c = (goes (upload_errand g.K.Keeper.spares_memory (g.K.Lookup.keeping c.args.keeper.now) (g.K.Lookup.keeping c.upload_device.new.keeper)) c.args.ids c.upload_device.ensures.transfer.0 (record { line = record { health = g.W.End.health c.args.wire.now; wire = g.W.Wire.state c.args.wire.now }; moments = g.C.Clock.to_come c.args.clock.now }) (record { line = record { health = g.W.End.health c.upload_device.new.wire; wire = g.W.Wire.state c.upload_device.new.wire }; moments = g.C.Clock.to_come c.upload_device.new.clock }) (outcome_of c.upload_device.result) c.upload_device.ensures.transfer.1).1
