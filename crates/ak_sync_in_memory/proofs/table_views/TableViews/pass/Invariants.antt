use Rattle.std.proofs.Common.{◌≡◌, drop}
use Rattle.ak_keep.specs.Collections.{last_id}
use Rattle.ak_sync_in_memory.proofs.table_views.TableViews.pass.Given as goal

-- the last of the rows that are left is the last of all, and nothing else changes
abbrev pub invariant-loop-row : goal.invariant-loop-row
invariant-loop-row l = record {
  last : last_id l.self.past.id (drop l.row-index l.rows) ≡ last_id l.fn.self.past.id l.rows;
  table : l.self.past.table ≡ l.fn.self.past.table;
  is_done : l.self.is_done ≡ l.fn.self.is_done;
}
