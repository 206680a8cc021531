use Rattle.std.proofs.Common.{arith, ap}
use Rattle.serde_json.specs.Data.{Items}
use Rattle.ak_json.specs.Rows.{ReadsRow}
use Rattle.ak_wire.specs.Parts.{RefusesRowOf}
use Rattle.ak_wire.specs.Wholes.{items_for}
use Rattle.ak_wire.proofs.EachPart.{values_left, none_left, goes_first, listed_goes, listed_fails, listed_was, goes_to_end}
use Rattle.ak_wire.proofs.Refusals.{err_was}
use Rattle.ak_wire.proofs.wholes.read_rows.Goals as goal

pub loop-value-init : goal.loop-value-init
loop-value-init c = record { goes = goes_first (ReadsRow c.args.table) (RefusesRowOf c.args.table) _ _ c.new-rows.ensures; fails = λ fault h. h }

pub loop-value-preserved : goal.loop-value-preserved
loop-value-preserved c =
    let left = values_left c.args.values.now c.loop-value.value-index _ (omega arith) c.value-item.is in
    record {
      goes = listed_goes c.args.table _ _ _ _ _ _ left c.in_ok-add_row.ensures.ok c.loop-value.invariant.goes;
      fails = listed_fails c.args.table _ _ _ _ _ _ left c.in_ok-add_row.ensures.ok c.loop-value.invariant.fails;
    }

pub returns-in_err-add_row-clause-err : goal.returns-in_err-add_row-clause-err
returns-in_err-add_row-clause-err c =
    err_was c.from_residual.result c.from_residual.ensures.1 (λ fault same. listed_was c.args.table _ _ _ _ fault c.in_err-add_row.field-0.0
    (values_left c.args.values.now c.loop-value.value-index _ (omega arith) c.value-item.is) c.loop-value.invariant.fails same c.in_err-add_row.ensures.err)

pub returns-clause-ok : goal.returns-clause-ok
returns-clause-ok c =
    goes_to_end (ReadsRow c.args.table) (RefusesRowOf c.args.table) _ _ _
    (ap (λ (items : Items). items_for c.args.table items) (none_left c.args.values.now c.loop-value.value-index (omega arith))) c.loop-value.invariant.goes
