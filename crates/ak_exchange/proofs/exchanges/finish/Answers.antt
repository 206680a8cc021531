use Rattle.std.proofs.Common.{refl, rules, w64, SFits}
use Rattle.std.proofs.lemmas.Int.{to_z-of_z}
use Rattle.ak_exchange.proofs.Finishing.{finishes_granted, finishes_refused, finishes_unasked, moment_fits}
use Rattle.ak_exchange.proofs.Granted.{granted_give}
use Rattle.ak_client_wire.specs.Forms.{moment_in}
use Rattle.ak_exchange.proofs.exchanges.finish.Goals as goal

pub returns-in_err-request-clause-leads : goal.returns-in_err-request-clause-leads
returns-in_err-request-clause-leads g c = finishes_unasked _ _ _ c.in_err-request.ensures.full c.from_residual.ensures.1 refl refl c.in_err-request.ensures.stays

pub returns-in_err-moment-clause-leads : goal.returns-in_err-moment-clause-leads
returns-in_err-moment-clause-leads g c =
    finishes_refused _ _ c.ask.result
    (record { it = c.in_ok-request.request; made = c.in_ok-request.ensures.made; envelopes = c.in_ok-request.ensures.next; call = c.ask.ensures })
    _ _ c.in_err-moment.was c.from_residual-in_err-moment.ensures.1

pub returns-clause-leads : goal.returns-clause-leads
returns-clause-leads g c =
    let moment : SFits w64 c.in_ok-moment.moment = search rules in
    rw (to_z-of_z w64 c.in_ok-moment.moment moment) (finishes_granted _ _ c.ask.result
    (record { it = c.in_ok-request.request; made = c.in_ok-request.ensures.made; envelopes = c.in_ok-request.ensures.next; call = c.ask.ensures })
    _ c.in_ok-moment.was)

pub returns-clause-range : goal.returns-clause-range
returns-clause-range g c =
    let give = granted_give _ _ _ _ _ moment_in _ _ c.ask.ensures c.in_ok-moment.was in
    let moment : SFits w64 c.in_ok-moment.moment = search rules in
    rw (to_z-of_z w64 c.in_ok-moment.moment moment) (moment_fits give.0 c.in_ok-moment.moment give.1)
