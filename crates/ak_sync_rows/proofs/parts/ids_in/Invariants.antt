use Rattle.std.proofs.Common.{◌≡◌, ◌++◌, drop}
use Rattle.ak_session.specs.Messages.{ids_in}
use Rattle.ak_sync_rows.proofs.parts.ids_in.Given as goal

-- the ids so far and those of the rows that are left are those of all
abbrev pub invariant-loop-row : goal.invariant-loop-row
invariant-loop-row l = l.ids ++ ids_in l.table (drop l.row-index l.rows) ≡ ids_in l.table l.rows
