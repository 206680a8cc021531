use Rattle.std.proofs.Common.{refl, sym, ap, subst, rules, w64, SFits}
use Rattle.std.proofs.lemmas.Int.{to_z-of_z}
use Rattle.ak_device.specs.Settlings.{NamesUnsentTags, is_changes}
use Rattle.ak_exchange.proofs.Faults.{cause_keeper, cause_memory, cause_ok, cause_wire}
use Rattle.ak_exchange.proofs.Held.{settled_ask}
use Rattle.ak_exchange.proofs.Parts.{push_refused, push_stays, push_took}
use Rattle.ak_exchange.proofs.Stopping.{by_memory, by_wire, keeper_after, kept_granted}
use Rattle.ak_faults.proofs.Healths.{goes_nowhere}
use Rattle.ak_messages.specs.declared.requests.Ask.{Ask}
use Rattle.ak_messages.specs.declared.requests.Ask.TheVariants as asks
use Rattle.ak_messages.specs.declared.requests.Request.{Request}
use Rattle.ak_session.proofs.Ranges.{not_both}
use Rattle.ak_exchange.proofs.exchanges.send_chunk.Goals as goal

pub returns-in_err-request-clause-leads : goal.returns-in_err-request-clause-leads
returns-in_err-request-clause-leads g c = λ count from next told.
    push_stays c.args.chunk count from next c.args.met.now _ _ _ _ _ refl refl c.in_err-request.ensures.stays (by_memory _ c.from_residual.ensures.1)

pub returns-in_err-ask-clause-leads : goal.returns-in_err-ask-clause-leads
returns-in_err-ask-clause-leads g c = λ count from next told.
    push_refused c.args.met.now (g.K.Lookup.keeping c.args.keeper.now) _ _ c.ask.result count from next c.args.chunk told c.requires.full
    (record { it = c.in_ok-request.request; made = c.in_ok-request.ensures.made; envelopes = c.in_ok-request.ensures.next; call = c.ask.ensures })
    _ _ (λ why came. refl) (by_wire _ _ _ c.in_err-ask.was c.from_residual-in_err-ask.ensures.1)

pub returns-in_err-settle_sent-clause-leads : goal.returns-in_err-settle_sent-clause-leads
returns-in_err-settle_sent-clause-leads g c = λ count from next told.
    push_refused c.args.met.now (g.K.Lookup.keeping c.args.keeper.now) _ _ c.ask.result count from next c.args.chunk told c.requires.full
    (record { it = c.in_ok-request.request; made = c.in_ok-request.ensures.made; envelopes = c.in_ok-request.ensures.next; call = c.ask.ensures })
    _ _ (kept_granted _ _ _ _ c.in_ok-ask.was) (keeper_after _ _ _ _ c.in_ok-ask.was c.from_residual-in_err-settle_sent.ensures.1)

pub returns-clause-leads : goal.returns-clause-leads
returns-clause-leads g c = λ count from next told.
    let usn : SFits w64 c.args.met.now.meta.usn = search rules in
    push_took c.args.met.now (g.K.Lookup.keeping c.args.keeper.now) _ _ c.ask.result count from next c.args.chunk told c.requires.full
    (record { it = c.in_ok-request.request; made = c.in_ok-request.ensures.made; envelopes = c.in_ok-request.ensures.next; call = c.ask.ensures })
    _ _ c.in_ok-ask.was
    (settled_ask _ (asks.ApplyChunk c.args.chunk) c.in_ok-request.request.ask _ _ (ap (λ (it : Request). it.ask) c.in_ok-request.ensures.made)
    (rw (to_z-of_z w64 c.args.met.now.meta.usn usn) at c.in_ok-settle_sent.ensures.ok))

pub returns-in_err-request-clause-keeper : goal.returns-in_err-request-clause-keeper
returns-in_err-request-clause-keeper g c = cause_memory _ (goes_nowhere _) c.from_residual.ensures.1

pub returns-in_err-ask-clause-keeper : goal.returns-in_err-ask-clause-keeper
returns-in_err-ask-clause-keeper g c = cause_wire _ _ (goes_nowhere _) c.from_residual-in_err-ask.ensures.1

pub returns-in_err-settle_sent-clause-keeper : goal.returns-in_err-settle_sent-clause-keeper
returns-in_err-settle_sent-clause-keeper g c = cause_keeper _ _ c.in_err-settle_sent.ensures.cause c.from_residual-in_err-settle_sent.ensures.1

pub returns-clause-keeper : goal.returns-clause-keeper
returns-clause-keeper g c = cause_ok _ c.in_ok-settle_sent.ensures.cause.goes

pub settle_sent-requires-clause-held : goal.settle_sent-requires-clause-held
settle_sent-requires-clause-held g c = λ is. absurd (not_both is (ap (λ (it : Request). is_changes it.ask) c.in_ok-request.ensures.made))

pub settle_sent-requires-clause-tags : goal.settle_sent-requires-clause-tags
settle_sent-requires-clause-tags g c =
    subst (λ (ask : Ask). NamesUnsentTags ask (g.K.Lookup.keeping c.args.keeper.now)) (sym (ap (λ (it : Request). it.ask) c.in_ok-request.ensures.made)) tt
