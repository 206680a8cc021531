use Rattle.std.proofs.Common.{◌≡◌, ◌++◌}
use Rattle.ak_server_steps.specs.Wholes.{rows_in}
use Rattle.ak_base.specs.Names.{table_place}
use Rattle.ak_faults.specs.Causes.{GoesOn}
use Rattle.ak_keep.specs.Keepers.{WhereTold}
use Rattle.ak_keep.specs.Walks.{ahead, most_pages}
use Rattle.ak_transfers.proofs.Rows.{AreRead}
use Rattle.ak_transfers.specs.UploadParts.{MayBePutBefore}
use Rattle.ak_transfers.proofs.device_rows.read_table.Given as goal

-- the rows so far and those that are ahead are those of before and all of the table
abbrev pub invariant-pages : goal.invariant-pages
invariant-pages g l = record {
  all : WhereTold (g.K.Lookup.keeping l.fn.from) (λ h. l.rows.items ++ ahead l.walk h.rows ≡ l.fn.rows.items ++ rows_in l.fn.table h.rows);
  table : l.walk.past.table ≡ l.fn.table;
  read : MayBePutBefore (table_place l.fn.table) l.fn.rows.items → AreRead l.fn.table l.walk.past.id l.walk.done l.rows.items;
  kept : g.K.Lookup.kept l.from ≡ g.K.Lookup.kept l.fn.from;
  same : g.K.Lookup.keeping l.from ≡ g.K.Lookup.keeping l.fn.from;
  goes : GoesOn (g.K.Lookup.health l.fn.from) (g.K.Lookup.health l.from);
}

abbrev pub decreases-pages : goal.decreases-pages
decreases-pages g l = most_pages l.walk
