use Rattle.std.proofs.Common.{subst}
use Rattle.std.proofs.lemmas.Result.{err_from_is_err_and}
use Rattle.ak_http_links.specs.LinkReads.{AnswersBody}
use Rattle.ak_http_links.proofs.Readings.{head_fails, body_fails, body_answers}
use Rattle.ak_http_links.proofs.requests.receive_request.Goals as goal

pub returns-in-Err-clause-told : goal.returns-in-Err-clause-told
returns-in-Err-clause-told g c = rw c.from.ensures (head_fails _ _ _ c.in-Err.ensures.told)

pub returns-in_err-body-clause-told : goal.returns-in_err-body-clause-told
returns-in_err-body-clause-told g c =
    let p = err_from_is_err_and c.from_residual.result c.from_residual.ensures.1 in
    rw (p.1, p.2) (body_fails _ _ _ _ _ c.in-Ok.ensures.told c.in_err-body.ensures.told)

pub returns-clause-told : goal.returns-clause-told
returns-clause-told g c =
    body_answers _ _ _ _ _ _ c.in-Ok.ensures.told c.in_ok-body.ensures.told
    (subst (λ l. AnswersBody c.in-Ok.head l c.request_of.result) c.as_slice.ensures c.request_of.ensures)
