use Rattle.std.proofs.Common.{drop}
use Rattle.serde_json.specs.View.{items_view}
use Rattle.ak_json.specs.Rows.{ReadsRow}
use Rattle.ak_wire.specs.Parts.{RefusesRowOf}
use Rattle.ak_wire.specs.Wholes.{items_for}
use Rattle.ak_wire.proofs.EachPart.{Goes, Fails}
use Rattle.ak_wire.proofs.wholes.read_rows.Given as goal

-- what the values that are left are read as goes after the rows so far, and the first fault of them is that of all
abbrev pub invariant-loop-value : goal.invariant-loop-value
invariant-loop-value l =
    record {
      goes : Goes (ReadsRow l.table) (RefusesRowOf l.table) (items_for l.table (items_view (drop l.value-index l.values))) (items_for l.table (items_view l.values)) l.rows;
      fails : Fails (ReadsRow l.table) (RefusesRowOf l.table) (items_for l.table (items_view (drop l.value-index l.values))) (items_for l.table (items_view l.values));
    }
