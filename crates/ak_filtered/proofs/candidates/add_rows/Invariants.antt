use Rattle.std.proofs.Common.{◌≡◌, length}
use Rattle.ak_faults.specs.Causes.{GoesOn}
use Rattle.ak_filtered.proofs.GatheredKeys.{PutsOn}
use Rattle.ak_keep.specs.Keepers.{WhereTold}
use Rattle.ak_filtered.proofs.candidates.add_rows.Given as goal

-- the candidates so far, with those of the rows that are left, are those of all rows
abbrev pub invariant-loop-row : goal.invariant-loop-row
invariant-loop-row g l = record {
  kept : g.R.Lookup.kept l.from ≡ g.R.Lookup.kept l.fn.from;
  same : g.R.Lookup.keeping l.from ≡ g.R.Lookup.keeping l.fn.from;
  goes : GoesOn (g.R.Lookup.health l.fn.from) (g.R.Lookup.health l.from);
  found : WhereTold (g.R.Lookup.keeping l.fn.from) (λ h. PutsOn l.sieve l.fn.search l.search l.fn.keys.keys l.keys.keys l.rows l.rest h.rows);
}

abbrev pub decreases-loop-row : goal.decreases-loop-row
decreases-loop-row g l = length l.rest
