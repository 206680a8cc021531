use Rattle.std.proofs.Common.{◌≡◌}
use Rattle.ak_faults.specs.Causes.{GoesOn}
use Rattle.ak_keep.specs.Keepers.{WhereTold}
use Rattle.ak_merge.proofs.Passing.{IsLeft}
use Rattle.ak_merge.proofs.conflicts.apart.Given as goal

-- the tables that were passed are in no doubt
abbrev pub invariant-loop-table : goal.invariant-loop-table
invariant-loop-table g l = record {
  first : WhereTold (g.A.Lookup.keeping l.fn.a) (λ c. WhereTold (g.B.Lookup.keeping l.fn.b) (λ d. IsLeft l.table-index c.rows d.rows));
  one_kept : g.A.Lookup.kept l.a ≡ g.A.Lookup.kept l.fn.a;
  other_kept : g.B.Lookup.kept l.b ≡ g.B.Lookup.kept l.fn.b;
  one_same : g.A.Lookup.keeping l.a ≡ g.A.Lookup.keeping l.fn.a;
  other_same : g.B.Lookup.keeping l.b ≡ g.B.Lookup.keeping l.fn.b;
  one_goes : GoesOn (g.A.Lookup.health l.fn.a) (g.A.Lookup.health l.a);
  other_goes : GoesOn (g.B.Lookup.health l.fn.b) (g.B.Lookup.health l.b);
}
