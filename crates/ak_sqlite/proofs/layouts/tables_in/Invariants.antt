use Rattle.std.proofs.Common.{◌≤◌}
use Rattle.ak_sqlite.proofs.layouts.tables_in.Given as goal

-- no more were found than were looked at
abbrev pub invariant-loop-row : goal.invariant-loop-row
invariant-loop-row g l = l.found ≤ l.row-index
