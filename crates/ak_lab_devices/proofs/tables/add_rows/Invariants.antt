use Rattle.std.proofs.Common.{◌≡◌, ◌++◌, map, take}
use Rattle.ak_lab_devices.specs.Shows.{row_text}
use Rattle.ak_lab_devices.proofs.tables.add_rows.Given as goal

-- the rows so far are added
abbrev pub invariant-loop-row : goal.invariant-loop-row
invariant-loop-row l = l.texts ≡ l.fn.texts ++ map row_text (take l.row-index l.rows)
