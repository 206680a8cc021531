use Rattle.serde_json.specs.View.{view}
use Rattle.ak_wire.specs.Bodies.{ChangesFault}
use Rattle.ak_wire.proofs.Refusals.{err_was, inner_was}
use Rattle.ak_wire.proofs.requests.read_apply_changes.Goals as goal

pub returns-in_err-changes-clause-err : goal.returns-in_err-changes-clause-err
returns-in_err-changes-clause-err c =
    err_was c.from_residual-in_err-changes.result c.from_residual-in_err-changes.ensures.1 (λ fault same. inner_was _ ChangesFault _ (view c.value_under.result.now) fault c.in_err-changes.field-0.0
    c.in_ok-check_object.ensures.ok c.value_under.ensures same c.in_err-changes.ensures.err)
