use Rattle.std.proofs.Common.{◌≡◌}
use Rattle.ak_faults.specs.Causes.{GoesOn}
use Rattle.ak_filtered.proofs.GatheredKeys.{GathersOn}
use Rattle.ak_keep.specs.Keepers.{WhereTold}
use Rattle.ak_keep.specs.Walks.{most_pages}
use Rattle.ak_filtered.proofs.candidates.gather.Given as goal

-- the candidates so far, and those ahead, are all
abbrev pub invariant-pages : goal.invariant-pages
invariant-pages g l = record {
  kept : g.R.Lookup.kept l.from ≡ g.R.Lookup.kept l.fn.from;
  same : g.R.Lookup.keeping l.from ≡ g.R.Lookup.keeping l.fn.from;
  goes : GoesOn (g.R.Lookup.health l.fn.from) (g.R.Lookup.health l.from);
  found : WhereTold (g.R.Lookup.keeping l.fn.from) (λ h. GathersOn l.sieve l.fn.search l.search l.keys.keys l.walk h.rows);
}

abbrev pub decreases-pages : goal.decreases-pages
decreases-pages g l = most_pages l.walk
