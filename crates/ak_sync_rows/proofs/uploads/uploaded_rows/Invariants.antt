use Rattle.std.proofs.Common.{◌≡◌, ◌++◌, drop}
use Rattle.ak_merge.specs.Commits.{uploaded_rows}
use Rattle.ak_sync_rows.proofs.uploads.uploaded_rows.Given as goal

-- the rows so far and those that are left are those of all
abbrev pub invariant-loop-row : goal.invariant-loop-row
invariant-loop-row l = l.rows ++ uploaded_rows (drop l.row-index l.came) ≡ uploaded_rows l.came
