use Rattle.std.proofs.Common.{◌≡◌, map}
use Rattle.std.specs.FinMap.{get}
use Rattle.std.specs.Option.{option_or}
use Rattle.ak_base.specs.Rows.{name_of}
use Rattle.ak_base.specs.declared.names.Name.{Name}
use Rattle.ak_keep.specs.Entries.{row_at}
use Rattle.ak_memory.proofs.marked_rows.MarkedRows.of_rows.Given as goal

-- what is there, filled from what is left, is what all rows make
abbrev pub invariant-loop-row : goal.invariant-loop-row
invariant-loop-row l =
    (q : Name) → option_or (get l.made.current q) (row_at (map (λ row. (name_of row, row)) l.row-iterator.rest.items) q) ≡ row_at (map (λ row. (name_of row, row)) l.fn.rows) q
