use Rattle.std.proofs.Common.{arith}
use Rattle.serde_json.specs.View.{items_view}
use Rattle.ak_wire.proofs.EachPart.{values_left, none_left, goes_first, goes_on, fails_on, fails_was, goes_to_end}
use Rattle.ak_wire.proofs.Refusals.{err_was}
use Rattle.ak_wire.proofs.parts.read_each.Goals as goal

pub loop-value-init : goal.loop-value-init
loop-value-init g c = record { goes = goes_first _ g.P.Part.refuses _ _ c.new-parts.ensures; fails = λ fault h. h }

pub loop-value-preserved : goal.loop-value-preserved
loop-value-preserved g c =
    let left = values_left c.args.values.now c.loop-value.value-index _ (omega arith) c.value-item.is in
    record {
      goes = goes_on _ g.P.Part.refuses _ _ _ _ _ _ left c.in_ok-add_part.ensures.ok c.loop-value.invariant.goes;
      fails = fails_on _ _ _ _ _ _ _ _ left c.in_ok-add_part.ensures.ok c.loop-value.invariant.fails;
    }

pub returns-in_err-add_part-clause-err : goal.returns-in_err-add_part-clause-err
returns-in_err-add_part-clause-err g c =
    err_was c.from_residual.result c.from_residual.ensures.1 (λ fault same. fails_was _ _ _ _ _ _ fault c.in_err-add_part.field-0.0
    (values_left c.args.values.now c.loop-value.value-index _ (omega arith) c.value-item.is) c.loop-value.invariant.fails same c.in_err-add_part.ensures.err)

pub returns-clause-ok : goal.returns-clause-ok
returns-clause-ok g c =
    goes_to_end _ g.P.Part.refuses _ _ _ (none_left c.args.values.now c.loop-value.value-index (omega arith)) c.loop-value.invariant.goes
