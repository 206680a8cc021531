use Rattle.std.specs.List.{All}
use Rattle.std.proofs.Common.{◌≡◌, ◌++◌, Some, drop}
use Rattle.ak_server_steps.proofs.InTables.{rows_in_all}
use Rattle.ak_base.specs.Rows.{IsChecked}
use Rattle.ak_base.specs.Tables.{all_tables}
use Rattle.ak_faults.specs.Causes.{GoesOn}
use Rattle.ak_keep.specs.Collections.{Collection}
use Rattle.ak_sync_in_memory.specs.Copies.{IsViewed, committed_in}
use Rattle.ak_sync_in_memory.specs.Entries.{health_in}
use Rattle.ak_sync_in_memory.proofs.copies.view_rows.Given as goal

-- the rows so far and those of the tables that are left are those of all tables
abbrev pub invariant-loop-table : goal.invariant-loop-table
invariant-loop-table l = record {
  views : IsViewed l.fn.server l.server;
  goes : GoesOn (health_in l.fn.server) (health_in l.server);
  checked : All IsChecked l.rows.items;
  all : (c : Collection) → committed_in l.fn.server ≡ Some c
      → l.rows.items ++ rows_in_all (drop l.table-index all_tables) c.rows ≡ rows_in_all all_tables c.rows;
}
