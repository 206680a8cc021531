use Rattle.std.proofs.Common.{◌≡◌, ◌++◌, drop}
use Rattle.ak_server_steps.proofs.InTables.{rows_in_all}
use Rattle.ak_base.specs.Tables.{all_tables}
use Rattle.ak_faults.specs.Causes.{GoesOn}
use Rattle.ak_keep.specs.Keepers.{WhereTold}
use Rattle.ak_transfers.specs.UploadParts.{MayBePutBefore}
use Rattle.ak_transfers.proofs.device_rows.all_rows.Given as goal

-- the rows so far and those of the tables that are left are those of all tables; they are of the tables before
abbrev pub invariant-loop-table : goal.invariant-loop-table
invariant-loop-table g l = record {
  all : WhereTold (g.K.Lookup.keeping l.fn.from) (λ h. l.rows.items ++ rows_in_all (drop l.table-index all_tables) h.rows ≡ rows_in_all all_tables h.rows);
  may : MayBePutBefore l.table-index l.rows.items;
  kept : g.K.Lookup.kept l.from ≡ g.K.Lookup.kept l.fn.from;
  same : g.K.Lookup.keeping l.from ≡ g.K.Lookup.keeping l.fn.from;
  goes : GoesOn (g.K.Lookup.health l.fn.from) (g.K.Lookup.health l.from);
}
