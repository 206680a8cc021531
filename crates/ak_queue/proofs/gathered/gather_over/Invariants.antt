use Rattle.std.proofs.Common.{◌≡◌, ◌<◌, ◌≤◌}
use Rattle.ak_faults.specs.Causes.{GoesOn}
use Rattle.ak_keep.specs.Keepers.{WhereTold}
use Rattle.ak_keep.specs.Lookups.{cards_in}
use Rattle.ak_keep.specs.QueueWalks.{most_pages}
use Rattle.ak_keep.specs.WaitingCards.{IsOneOf}
use Rattle.ak_queue.specs.Scopes.{scope_seen}
use Rattle.ak_queue.proofs.Gatherings.{PassedSoFar}
use Rattle.ak_queue.proofs.gathered.gather_over.Given as goal

-- the cards so far, and those to come, are all, and a page has room for some
abbrev pub invariant-pages : goal.invariant-pages
invariant-pages g l = record {
  kept : g.R.Lookup.kept l.from ≡ g.R.Lookup.kept l.fn.from;
  same : g.R.Lookup.keeping l.from ≡ g.R.Lookup.keeping l.fn.from;
  goes : GoesOn (g.R.Lookup.health l.fn.from) (g.R.Lookup.health l.from);
  low : 0 < l.limit;
  high : l.limit ≤ 1000;
  most : l.gathered.most ≡ l.fn.gathered.most;
  found : WhereTold (g.R.Lookup.keeping l.fn.from) (λ h. PassedSoFar (scope_seen l.scope) (IsOneOf (cards_in h.rows)) l.fn.over l.walk l.fn.gathered l.gathered);
}

abbrev pub decreases-pages : goal.decreases-pages
decreases-pages g l = most_pages l.walk
