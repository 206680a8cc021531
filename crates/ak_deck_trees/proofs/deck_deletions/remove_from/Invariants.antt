use Rattle.std.proofs.Common.{◌≡◌}
use Rattle.ak_deck_trees.proofs.TreeAnswers.{LeadsOn}
use Rattle.ak_faults.specs.Causes.{GoesOn}
use Rattle.ak_keep.specs.Keepers.{WhereTold}
use Rattle.ak_keep.specs.Walks.{most_pages}
use Rattle.ak_deck_trees.proofs.deck_deletions.remove_from.Given as goal

-- what the rows ahead make of the changes so far is what all rows of the table make of those at first
abbrev pub invariant-pages : goal.invariant-pages
invariant-pages g l = record {
  same : g.K.Lookup.keeping l.keeper ≡ g.K.Lookup.keeping l.fn.keeper;
  removed : WhereTold (g.K.Lookup.keeping l.fn.keeper) (λ h. LeadsOn l.root l.fn.table l.walk l.change l.fn.change h.rows);
  goes : GoesOn (g.K.Lookup.health l.fn.keeper) (g.K.Lookup.health l.keeper);
}

abbrev pub decreases-pages : goal.decreases-pages
decreases-pages g l = most_pages l.walk
