use Rattle.std.specs.List.{All}
use Rattle.std.proofs.Common.{◌≡◌, ◌++◌, Some}
use Rattle.ak_server_steps.specs.Wholes.{rows_in}
use Rattle.ak_base.specs.Rows.{IsChecked}
use Rattle.ak_faults.specs.Causes.{GoesOn}
use Rattle.ak_keep.specs.Collections.{Collection}
use Rattle.ak_sync_in_memory.specs.Copies.{IsViewed, committed_in, most_pages, rows_to_come}
use Rattle.ak_sync_in_memory.specs.Entries.{health_in}
use Rattle.ak_sync_in_memory.proofs.copies.view_table.Given as goal

-- the rows so far and those that are to come are those of before and all of the table
abbrev pub invariant-pages : goal.invariant-pages
invariant-pages l = record {
  views : IsViewed l.fn.server l.server;
  goes : GoesOn (health_in l.fn.server) (health_in l.server);
  checked : All IsChecked l.fn.rows.items → All IsChecked l.rows.items;
  all : (c : Collection) → committed_in l.fn.server ≡ Some c
      → l.rows.items ++ rows_to_come l.views c.rows ≡ l.fn.rows.items ++ rows_in l.fn.table c.rows;
}

abbrev pub decreases-pages : goal.decreases-pages
decreases-pages l = most_pages l.views
