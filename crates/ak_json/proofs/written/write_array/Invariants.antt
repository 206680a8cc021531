use Rattle.std.proofs.Common.{◌≡◌, map, take}
use Rattle.serde_json.specs.View.{view}
use Rattle.ak_json.specs.Written.{cells_data}
use Rattle.ak_json.proofs.written.write_array.Given as goal

-- the cells so far are written
abbrev pub invariant-loop-cell : goal.invariant-loop-cell
invariant-loop-cell l = map view l.values.items ≡ cells_data (take l.cell-index l.cells)
