use Rattle.std.proofs.Common.{◌≡◌, ◌++◌, map, filter, drop}
use Rattle.serde_json.specs.View.{view}
use Rattle.ak_json.specs.Rows.{row_json}
use Rattle.ak_wire.specs.Written.{is_under}
use Rattle.ak_wire.proofs.wholes.write_rows.Given as goal

-- the rows so far are written, and then those that are left
abbrev pub invariant-loop-row : goal.invariant-loop-row
invariant-loop-row l =
    map view l.values.items ++ map row_json (filter (is_under l.key) (drop l.row-index l.rows)) ≡ map row_json (filter (is_under l.key) l.rows)
