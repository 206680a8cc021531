use Rattle.std.proofs.Common.{◌≡◌, drop}
use Rattle.std.specs.List.{list_any}
use Rattle.ak_base.specs.Tables.{all_tables}
use Rattle.ak_client.specs.Unsent.{has_unsent_in, has_unsent_row}
use Rattle.ak_faults.specs.Causes.{GoesOn}
use Rattle.ak_keep.specs.Keepers.{WhereTold}
use Rattle.ak_client.proofs.unsent.has_unsent_row.Given as goal

-- the rows of the tables so far were sent
abbrev pub invariant-loop-table : goal.invariant-loop-table
invariant-loop-table g l = record {
  left : WhereTold (g.K.Lookup.keeping l.fn.keeper) (λ h. list_any (has_unsent_in h.rows) (drop l.table-index all_tables) ≡ has_unsent_row h.rows);
  kept : g.K.Lookup.kept l.keeper ≡ g.K.Lookup.kept l.fn.keeper;
  same : g.K.Lookup.keeping l.keeper ≡ g.K.Lookup.keeping l.fn.keeper;
  goes : GoesOn (g.K.Lookup.health l.fn.keeper) (g.K.Lookup.health l.keeper);
}
