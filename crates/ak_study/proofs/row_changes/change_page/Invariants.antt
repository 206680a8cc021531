use Rattle.std.proofs.Common.{◌≡◌, length}
use Rattle.ak_study.specs.RowChanges.{put_rows_changed}
use Rattle.ak_study.proofs.row_changes.change_page.Given as goal

-- the changes of the rows that are left lead to what those of all rows lead to
abbrev pub invariant-loop-row : goal.invariant-loop-row
invariant-loop-row g l = put_rows_changed (g.C.RowChange.change l.by) l.rest l.change ≡ put_rows_changed (g.C.RowChange.change l.by) l.rows l.fn.change

abbrev pub decreases-loop-row : goal.decreases-loop-row
decreases-loop-row g l = length l.rest
