use Rattle.std.proofs.Common.{◌≡◌}
use Rattle.std.specs.List.{AllByRecursion}
use Rattle.ak_base.specs.Rows.{IsChecked}
use Rattle.ak_faults.specs.Causes.{GoesOn}
use Rattle.ak_imports.specs.KeptRows.{all_put}
use Rattle.ak_keep.specs.Keepers.{IsMarkedAt, back}
use Rattle.ak_imports.proofs.made_rows.put_rows.Given as goal

-- the rows that are left lead to what all lead to
abbrev pub invariant-loop-row : goal.invariant-loop-row
invariant-loop-row g l = record {
  leads : all_put l.row-iterator.rest.items (g.K.Lookup.keeping l.keeper) ≡ all_put l.fn.rows.items (g.K.Lookup.keeping l.fn.keeper);
  checked : AllByRecursion IsChecked l.row-iterator.rest.items;
  headed : (g.K.Lookup.keeping l.keeper).headed ≡ (g.K.Lookup.keeping l.fn.keeper).headed;
  stays : IsMarkedAt (back (g.K.Lookup.keeping l.fn.keeper)) (g.K.Lookup.keeping l.keeper);
  goes : GoesOn (g.K.Lookup.health l.fn.keeper) (g.K.Lookup.health l.keeper);
}
