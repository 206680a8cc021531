use Rattle.std.specs.Prelude.{Result}
use Rattle.std.proofs.Common.{refl, sym, ap, subst, inl, inr, w64}
use Rattle.std.proofs.lemmas.Int.{to_z-of_z}
use Rattle.ak_client.proofs.Keeping.{keeper_cause, wire_cause}
use Rattle.ak_client.proofs.Testing.{exits}
use Rattle.ak_client.specs.Outcomes.{outcome_at}
use Rattle.ak_exchange.proofs.Faults.{cause_ok}
use Rattle.ak_exchange.proofs.Granted.{granted_give}
use Rattle.ak_exchange.specs.Stops.{keep_stop, wire_stop}
use Rattle.ak_client.specs.declared.outcomes.Outcome.{Outcome}
use Rattle.ak_messages.specs.declared.requests.Request.{Request}
use Rattle.ak_transfers.proofs.Sending.{moments_fit}
use Rattle.ak_transfers.specs.Forms.{uploaded_in}
use Rattle.ak_transfers.specs.UploadParts.{Sends, wired}
use Rattle.ak_transfers.specs.declared.asks.UploadMoments.{UploadMoments}
use Rattle.ak_client_wire.specs.Tries.{Answered}
use Rattle.ak_transfers.proofs.uploads.send.Goals as goal

pub returns-in_err-whole-clause-sends : goal.returns-in_err-whole-clause-sends
returns-in_err-whole-clause-sends g c =
    exits c.from_residual.result (outcome_at (keep_stop c.in_err-whole.field-0.0)) (λ (r : Result UploadMoments Outcome). Sends c.args.ids c.args.moment (g.K.Lookup.keeping c.args.keeper.now) (g.K.Lookup.keeping c.prepare.new.keeper) (record { health = g.W.End.health c.args.wire.now; wire = g.W.Wire.state c.args.wire.now }) (record { health = g.W.End.health c.args.wire.now; wire = g.W.Wire.state c.args.wire.now }) r)
    c.from_residual.ensures.1
    (inl (refl, (c.in_err-whole.field-0.0, refl)))

pub returns-in_err-ask_upload-clause-sends : goal.returns-in_err-ask_upload-clause-sends
returns-in_err-ask_upload-clause-sends g c =
    exits c.from_residual-in_err-ask_upload.result (outcome_at (wire_stop c.in_err-ask_upload.field-0.0)) (λ (r : Result UploadMoments Outcome). Sends c.args.ids c.args.moment (g.K.Lookup.keeping c.args.keeper.now) (g.K.Lookup.keeping c.prepare.new.keeper) (record { health = g.W.End.health c.args.wire.now; wire = g.W.Wire.state c.args.wire.now }) (record { health = g.W.End.health c.ask_upload.new.wire; wire = g.W.Wire.state c.ask_upload.new.wire }) r)
    c.from_residual-in_err-ask_upload.ensures.1
    (inr (record {
      whole = c.in_ok-whole.whole;
      sent = c.in_ok-whole.ensures.sent;
      put = c.in_ok-whole.ensures.put;
      answer = c.ask_upload.result;
      heard = subst (λ (request : Request). Answered (g.W.End.health c.args.wire.now) (g.W.End.health c.ask_upload.new.wire) (g.W.Wire.state c.args.wire.now) (g.W.Wire.state c.ask_upload.new.wire) request uploaded_in c.ask_upload.result)
          (rw (to_z-of_z w64 c.args.moment c.ranges.moment) at c.first_request-request.ensures) c.ask_upload.ensures;
      came = sym (ap wired c.in_err-ask_upload.was);
    }))

pub returns-clause-sends : goal.returns-clause-sends
returns-clause-sends g c =
    (inr (record {
      whole = c.in_ok-whole.whole;
      sent = c.in_ok-whole.ensures.sent;
      put = c.in_ok-whole.ensures.put;
      answer = c.ask_upload.result;
      heard = subst (λ (request : Request). Answered (g.W.End.health c.args.wire.now) (g.W.End.health c.ask_upload.new.wire) (g.W.Wire.state c.args.wire.now) (g.W.Wire.state c.ask_upload.new.wire) request uploaded_in c.ask_upload.result)
          (rw (to_z-of_z w64 c.args.moment c.ranges.moment) at c.first_request-request.ensures) c.ask_upload.ensures;
      came = sym (ap wired c.in_ok-ask_upload.was);
    }))

pub returns-clause-range : goal.returns-clause-range
returns-clause-range g c =
    let give = granted_give _ _ _ _ _ uploaded_in _ _ c.ask_upload.ensures c.in_ok-ask_upload.was in
    moments_fit give.0 c.in_ok-ask_upload.field-0 give.1

pub returns-in_err-whole-clause-keeper : goal.returns-in_err-whole-clause-keeper
returns-in_err-whole-clause-keeper g c = keeper_cause _ _ c.in_err-whole.ensures.cause c.from_residual.ensures.1

pub returns-in_err-ask_upload-clause-keeper : goal.returns-in_err-ask_upload-clause-keeper
returns-in_err-ask_upload-clause-keeper g c = wire_cause _ _ c.in_ok-whole.ensures.cause.goes c.from_residual-in_err-ask_upload.ensures.1

pub returns-clause-keeper : goal.returns-clause-keeper
returns-clause-keeper g c = cause_ok _ c.in_ok-whole.ensures.cause.goes
