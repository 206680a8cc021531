use Rattle.std.proofs.Common.{refl}
use Rattle.ak_exchange.proofs.Parts.{check_ends, check_refused}
use Rattle.ak_exchange.proofs.Faults.{cause_keeper, cause_memory, cause_unkept, cause_wire}
use Rattle.ak_exchange.proofs.Passing.{advances_kept, stays_here}
use Rattle.ak_exchange.proofs.Places.{after_pushes, leads_on}
use Rattle.ak_exchange.proofs.Stopping.{by_keeper, by_memory, by_wire, unkept_verdict}
use Rattle.ak_session.specs.Plans.{planned_pushes}
use Rattle.ak_exchange.proofs.exchanges.compare.Goals as goal

pub returns-in_err-counts-clause-leads : goal.returns-in_err-counts-clause-leads
returns-in_err-counts-clause-leads g c =
    stays_here _ _ _ _ _ _ _ _ _ _ _ (leads_on planned_pushes after_pushes) refl refl refl (by_keeper _ _ c.from_residual.ensures.1)

pub returns-in_err-request-clause-leads : goal.returns-in_err-request-clause-leads
returns-in_err-request-clause-leads g c =
    stays_here _ _ _ _ _ _ _ _ _ _ _ (leads_on planned_pushes after_pushes) refl refl c.in_err-request.ensures.stays
    (by_memory _ c.from_residual-in_err-request.ensures.1)

pub returns-in_err-reply-clause-leads : goal.returns-in_err-reply-clause-leads
returns-in_err-reply-clause-leads g c =
    advances_kept _ _ _ _ _ _ _ _ _ _ _ c.in_ok-counts.ensures.reads.same
    (check_refused c.args.met.now (g.K.Lookup.keeping c.args.keeper.now) _ _ c.ask.result c.in_ok-counts.counts c.in_ok-counts.ensures.reads.told
    (record { it = c.in_ok-request.request; made = c.in_ok-request.ensures.made; envelopes = c.in_ok-request.ensures.next; call = c.ask.ensures })
    _ _ (by_wire _ _ _ c.in_err-reply.was c.from_residual-in_err-reply.ensures.1))

pub returns-clause-leads : goal.returns-clause-leads
returns-clause-leads g c =
    advances_kept _ _ _ _ _ _ _ _ _ _ _ c.in_ok-counts.ensures.reads.same
    (check_ends c.args.met.now (g.K.Lookup.keeping c.args.keeper.now) _ _ c.ask.result c.in_ok-counts.counts c.in_ok-counts.ensures.reads.told
    (record { it = c.in_ok-request.request; made = c.in_ok-request.ensures.made; envelopes = c.in_ok-request.ensures.next; call = c.ask.ensures })
    c.verdict.result c.in_ok-reply.reply c.in_ok-reply.was c.verdict.ensures)

pub returns-in_err-counts-clause-keeper : goal.returns-in_err-counts-clause-keeper
returns-in_err-counts-clause-keeper g c = cause_keeper _ _ c.in_err-counts.ensures.reads.cause c.from_residual.ensures.1

pub returns-in_err-request-clause-keeper : goal.returns-in_err-request-clause-keeper
returns-in_err-request-clause-keeper g c = cause_memory _ c.in_ok-counts.ensures.reads.cause.goes c.from_residual-in_err-request.ensures.1

pub returns-in_err-reply-clause-keeper : goal.returns-in_err-reply-clause-keeper
returns-in_err-reply-clause-keeper g c = cause_wire _ _ c.in_ok-counts.ensures.reads.cause.goes c.from_residual-in_err-reply.ensures.1

pub returns-clause-keeper : goal.returns-clause-keeper
returns-clause-keeper g c = cause_unkept _ c.in_ok-counts.ensures.reads.cause.goes (unkept_verdict c.in_ok-reply.reply c.verdict.result c.verdict.ensures)
