use Rattle.std.proofs.Common.{◌≡◌, drop}
use Rattle.ak_keep.specs.Collections.{last_id}
use Rattle.ak_sync_rows.proofs.chunks.last_id.Given as goal

-- the last of the rows that are left is the last of all
abbrev pub invariant-loop-row : goal.invariant-loop-row
invariant-loop-row l = last_id l.past (drop l.row-index l.rows) ≡ last_id l.fn.past l.rows
