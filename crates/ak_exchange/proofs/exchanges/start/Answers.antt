use Rattle.std.proofs.Common.{refl, rules, w64, SFits}
use Rattle.std.proofs.lemmas.Int.{to_z-of_z}
use Rattle.ak_exchange.proofs.Granted.{granted_give, graves_are}
use Rattle.ak_exchange.proofs.Parts.{start_refused, start_took}
use Rattle.ak_exchange.proofs.Faults.{cause_keeper, cause_memory, cause_ok, cause_wire}
use Rattle.ak_exchange.proofs.Passing.{stays_here}
use Rattle.ak_exchange.proofs.Stopping.{by_memory, by_wire, keeper_after, kept_granted}
use Rattle.ak_faults.proofs.Healths.{goes_nowhere}
use Rattle.ak_exchange.proofs.Places.{meta_leads}
use Rattle.ak_messages.specs.declared.replies.Give.TheVariants as gives
use Rattle.ak_session.specs.Replies.{replied}
use Rattle.ak_client_wire.specs.Forms.{graves_in}
use Rattle.ak_exchange.proofs.exchanges.start.Goals as goal

pub returns-in_err-request-clause-leads : goal.returns-in_err-request-clause-leads
returns-in_err-request-clause-leads g c =
    stays_here _ _ _ _ _ _ _ _ _ _ _ meta_leads refl refl c.in_err-request.ensures.stays (by_memory _ c.from_residual.ensures.1)

pub returns-in_err-graves-clause-leads : goal.returns-in_err-graves-clause-leads
returns-in_err-graves-clause-leads g c =
    let usn : SFits w64 c.args.met.now.head.usn = search rules in
    let moment : SFits w64 c.args.met.now.head.moment = search rules in
    start_refused c.args.met.now (g.K.Lookup.keeping c.args.keeper.now) _ _ c.ask.result
    (record { it = c.in_ok-request.request; made = rw (to_z-of_z w64 c.args.met.now.head.usn usn, to_z-of_z w64 c.args.met.now.head.moment moment) at c.in_ok-request.ensures.made; envelopes = c.in_ok-request.ensures.next; call = c.ask.ensures })
    _ _ (λ why came. refl) (by_wire _ _ _ c.in_err-graves.was c.from_residual-in_err-graves.ensures.1)

pub take_graves-requires-clause-taken : goal.take_graves-requires-clause-taken
take_graves-requires-clause-taken g c =
    let give = granted_give _ _ _ _ _ graves_in _ _ c.ask.ensures c.in_ok-graves.was in
    (graves_are give.0 c.in_ok-graves.graves give.1).1

pub returns-in_err-take_graves-clause-leads : goal.returns-in_err-take_graves-clause-leads
returns-in_err-take_graves-clause-leads g c =
    let usn : SFits w64 c.args.met.now.head.usn = search rules in
    let moment : SFits w64 c.args.met.now.head.moment = search rules in
    start_refused c.args.met.now (g.K.Lookup.keeping c.args.keeper.now) _ _ c.ask.result
    (record { it = c.in_ok-request.request; made = rw (to_z-of_z w64 c.args.met.now.head.usn usn, to_z-of_z w64 c.args.met.now.head.moment moment) at c.in_ok-request.ensures.made; envelopes = c.in_ok-request.ensures.next; call = c.ask.ensures })
    _ _ (kept_granted _ _ _ _ c.in_ok-graves.was) (keeper_after _ _ _ _ c.in_ok-graves.was c.from_residual-in_err-take_graves.ensures.1)

pub returns-clause-leads : goal.returns-clause-leads
returns-clause-leads g c =
    let usn : SFits w64 c.args.met.now.meta.usn = search rules in
    let own : SFits w64 c.args.met.now.head.usn = search rules in
    let moment : SFits w64 c.args.met.now.head.moment = search rules in
    start_took c.args.met.now (g.K.Lookup.keeping c.args.keeper.now) _ _ c.ask.result
    (record { it = c.in_ok-request.request; made = rw (to_z-of_z w64 c.args.met.now.head.usn own, to_z-of_z w64 c.args.met.now.head.moment moment) at c.in_ok-request.ensures.made; envelopes = c.in_ok-request.ensures.next; call = c.ask.ensures })
    _ _ c.in_ok-graves.graves c.in_ok-graves.was (rw (to_z-of_z w64 c.args.met.now.meta.usn usn) at c.in_ok-take_graves.ensures.ok)

pub returns-clause-took : goal.returns-clause-took
returns-clause-took g c =
    let usn : SFits w64 c.args.met.now.meta.usn = search rules in
    (replied (gives.Graves c.in_ok-graves.graves), rw (to_z-of_z w64 c.args.met.now.meta.usn usn) at c.in_ok-take_graves.ensures.ok)

pub returns-in_err-request-clause-keeper : goal.returns-in_err-request-clause-keeper
returns-in_err-request-clause-keeper g c = cause_memory _ (goes_nowhere _) c.from_residual.ensures.1

pub returns-in_err-graves-clause-keeper : goal.returns-in_err-graves-clause-keeper
returns-in_err-graves-clause-keeper g c = cause_wire _ _ (goes_nowhere _) c.from_residual-in_err-graves.ensures.1

pub returns-in_err-take_graves-clause-keeper : goal.returns-in_err-take_graves-clause-keeper
returns-in_err-take_graves-clause-keeper g c = cause_keeper _ _ c.in_err-take_graves.ensures.cause c.from_residual-in_err-take_graves.ensures.1

pub returns-clause-keeper : goal.returns-clause-keeper
returns-clause-keeper g c = cause_ok _ c.in_ok-take_graves.ensures.cause.goes
