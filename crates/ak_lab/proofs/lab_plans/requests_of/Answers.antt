use Rattle.std.proofs.Common.{List, length, ap, ◌∙◌, arith}
use Rattle.ak_lab.proofs.Planned.{has_requests, lacks_request, most_taken, saturated}
use Rattle.ak_lab_wires.specs.Servings.{named_from, requests_in}
use Rattle.ak_sync_in_memory.specs.declared.logs.Entry.{Entry}
use Rattle.ak_messages.specs.declared.requests.Request.{Request}
use Rattle.ak_lab.proofs.lab_plans.requests_of.Goals as goal

-- the requests that the log has are as many as were named
pub returns-clause-ok : goal.returns-clause-ok
returns-clause-ok c =
    let named = c.in_ok-requests.ensures ∙ ap (λ (l : List Entry). named_from c.args.again.from c.args.again.count (requests_in l)) c.entries.ensures in (
      named,
      has_requests c.args.again.from c.args.again.count c.args.server.now c.in_ok-requests.requests _ named (ap (λ (l : List Request). length l) c.as_slice.ensures)
          (λ few. absurd (omega (arith, few, c.if-found-again.false)))
          (most_taken c.args.again.from c.args.again.count (requests_in c.args.server.now.entries) c.in_ok-requests.requests named),
    )

pub returns-then-found-again-clause-err : goal.returns-then-found-again-clause-err
returns-then-found-again-clause-err c =
    let named = c.in_ok-requests.ensures ∙ ap (λ (l : List Entry). named_from c.args.again.from c.args.again.count (requests_in l)) c.entries.ensures in
    lacks_request c.args.again.from c.args.again.count c.args.server.now c.in_ok-requests.requests _ named (ap (λ (l : List Request). length l) c.as_slice.ensures) c.saturating_add.result c.no_request.result
    c.if-found-again.true (saturated c.args.again.from _ c.args.again.count c.saturating_add.result c.saturating_add.ensures c.requires.from c.requires.count c.if-found-again.true)
    c.no_request.ensures
