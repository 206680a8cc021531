use Rattle.serde_json.specs.View.{view}
use Rattle.ak_wire.specs.Bodies.{ChunkFault}
use Rattle.ak_wire.proofs.Refusals.{err_was, inner_was}
use Rattle.ak_wire.proofs.requests.read_apply_chunk.Goals as goal

pub returns-in_err-chunk-clause-err : goal.returns-in_err-chunk-clause-err
returns-in_err-chunk-clause-err c =
    err_was c.from_residual-in_err-chunk.result c.from_residual-in_err-chunk.ensures.1 (λ fault same. inner_was _ ChunkFault _ (view c.value_under.result.now) fault c.in_err-chunk.field-0.0
    c.in_ok-check_object.ensures.ok c.value_under.ensures same c.in_err-chunk.ensures.err)
