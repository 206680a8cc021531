use Rattle.std.proofs.Common.{◌≡◌, List, ◌++◌}
use Rattle.std.specs.FinMap.{get}
use Rattle.std.specs.List.{All}
use Rattle.ak_faults.specs.Causes.{GoesOn}
use Rattle.ak_keep.specs.Keepers.{WhereTold}
use Rattle.ak_edit.specs.Plans.{IsPlanOf, IsReadWrite, writes_of}
use Rattle.ak_edit.specs.declared.plans.Write.{Write}
use Rattle.ak_edit.proofs.plans.plan_rows.Given as goal

-- the writes so far and those of the entries that are left are those of all entries
abbrev pub invariant-loop-name : goal.invariant-loop-name
invariant-loop-name g l = record {
  planned : WhereTold (g.K.Lookup.keeping l.fn.keeper) (λ h. l.writes.items ++ writes_of l.now.second (get h.rows) l.name-iterator ≡ writes_of l.now.second (get h.rows) l.rows.entries);
  made : (vs : List Write) → IsPlanOf l.now.second l.name-iterator vs → IsPlanOf l.now.second l.rows.entries (l.writes.items ++ vs);
  read : All IsReadWrite l.writes.items;
  kept : g.K.Lookup.kept l.keeper ≡ g.K.Lookup.kept l.fn.keeper;
  same : g.K.Lookup.keeping l.keeper ≡ g.K.Lookup.keeping l.fn.keeper;
  goes : GoesOn (g.K.Lookup.health l.fn.keeper) (g.K.Lookup.health l.keeper);
}
