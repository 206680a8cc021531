use Rattle.std.proofs.Common.{refl, rules, w64, SFits}
use Rattle.std.proofs.lemmas.Int.{to_z-of_z}
use Rattle.ak_exchange.proofs.Granted.{chunk_are, granted_give}
use Rattle.ak_exchange.proofs.Parts.{pull_left, pull_stays, pull_took}
use Rattle.ak_exchange.proofs.Faults.{cause_keeper, cause_memory, cause_ok, cause_wire}
use Rattle.ak_exchange.proofs.Stopping.{by_memory, by_wire, keeper_after, kept_granted}
use Rattle.ak_faults.proofs.Healths.{goes_nowhere}
use Rattle.ak_messages.specs.declared.replies.Give.TheVariants as gives
use Rattle.ak_session.specs.Replies.{replied}
use Rattle.ak_client_wire.specs.Forms.{chunk_in}
use Rattle.ak_exchange.proofs.exchanges.pull_chunk.Goals as goal

pub returns-in_err-request-clause-leads : goal.returns-in_err-request-clause-leads
returns-in_err-request-clause-leads g c = λ count.
    pull_stays count _ _ _ _ _ _ refl refl c.in_err-request.ensures.stays (by_memory _ c.from_residual.ensures.1)

pub returns-in_err-chunk-clause-leads : goal.returns-in_err-chunk-clause-leads
returns-in_err-chunk-clause-leads g c = λ count.
    pull_left c.args.met.now (g.K.Lookup.keeping c.args.keeper.now) _ _ c.ask.result count
    (record { it = c.in_ok-request.request; made = c.in_ok-request.ensures.made; envelopes = c.in_ok-request.ensures.next; call = c.ask.ensures })
    _ _ (λ why came. refl) (by_wire _ _ _ c.in_err-chunk.was c.from_residual-in_err-chunk.ensures.1)

pub take_chunk-requires-clause-taken : goal.take_chunk-requires-clause-taken
take_chunk-requires-clause-taken g c =
    let give = granted_give _ _ _ _ _ chunk_in _ _ c.ask.ensures c.in_ok-chunk.was in
    (chunk_are give.0 c.in_ok-chunk.chunk give.1).1

pub returns-in_err-take_chunk-clause-leads : goal.returns-in_err-take_chunk-clause-leads
returns-in_err-take_chunk-clause-leads g c = λ count.
    pull_left c.args.met.now (g.K.Lookup.keeping c.args.keeper.now) _ _ c.ask.result count
    (record { it = c.in_ok-request.request; made = c.in_ok-request.ensures.made; envelopes = c.in_ok-request.ensures.next; call = c.ask.ensures })
    _ _ (kept_granted _ _ _ _ c.in_ok-chunk.was) (keeper_after _ _ _ _ c.in_ok-chunk.was c.from_residual-in_err-take_chunk.ensures.1)

pub returns-clause-leads : goal.returns-clause-leads
returns-clause-leads g c = λ count.
    let usn : SFits w64 c.args.met.now.meta.usn = search rules in
    pull_took c.args.met.now (g.K.Lookup.keeping c.args.keeper.now) _ _ c.ask.result count
    (record { it = c.in_ok-request.request; made = c.in_ok-request.ensures.made; envelopes = c.in_ok-request.ensures.next; call = c.ask.ensures })
    _ c.in_ok-chunk.chunk c.in_ok-chunk.was (rw (to_z-of_z w64 c.args.met.now.meta.usn usn) at c.in_ok-take_chunk.ensures.ok)

pub returns-clause-took : goal.returns-clause-took
returns-clause-took g c =
    let usn : SFits w64 c.args.met.now.meta.usn = search rules in
    (replied (gives.Chunk c.in_ok-chunk.chunk), rw (to_z-of_z w64 c.args.met.now.meta.usn usn) at c.in_ok-take_chunk.ensures.ok)

pub returns-in_err-request-clause-keeper : goal.returns-in_err-request-clause-keeper
returns-in_err-request-clause-keeper g c = cause_memory _ (goes_nowhere _) c.from_residual.ensures.1

pub returns-in_err-chunk-clause-keeper : goal.returns-in_err-chunk-clause-keeper
returns-in_err-chunk-clause-keeper g c = cause_wire _ _ (goes_nowhere _) c.from_residual-in_err-chunk.ensures.1

pub returns-in_err-take_chunk-clause-keeper : goal.returns-in_err-take_chunk-clause-keeper
returns-in_err-take_chunk-clause-keeper g c = cause_keeper _ _ c.in_err-take_chunk.ensures.cause c.from_residual-in_err-take_chunk.ensures.1

pub returns-clause-keeper : goal.returns-clause-keeper
returns-clause-keeper g c = cause_ok _ c.in_ok-take_chunk.ensures.cause.goes
