use Rattle.ak_http_wires.proofs.Readings.{body_fails_so, refused_so}
use Rattle.ak_http_wires.proofs.answers.read_answer.Goals as goal

pub returns-in_err-body-clause-told : goal.returns-in_err-body-clause-told
returns-in_err-body-clause-told g c =
    body_fails_so c.args.method _ _ c.in_ok-head.head c.in_err-body.field-0.0 _ c.in_ok-head.ensures.told c.in_err-body.ensures.told
    c.from_residual-in_err-body.ensures.1

pub returns-clause-told : goal.returns-clause-told
returns-clause-told g c =
    refused_so c.args.method _ _ c.in_ok-head.head c.in_ok-body.body c.as_slice.result.now c.in-Err.fault _ c.in_ok-head.ensures.told
    c.in_ok-body.ensures.told c.as_slice.ensures c.in-Err.ensures.err c.fault_of.ensures
