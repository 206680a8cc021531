use Rattle.std.proofs.Common.{◌≡◌}
use Rattle.ak_faults.specs.Causes.{GoesOn}
use Rattle.ak_keep.specs.Keepers.{WhereTold}
use Rattle.ak_keep.specs.Walks.{most_pages}
use Rattle.ak_options.proofs.Deleting.{LeadsTo}
use Rattle.ak_options.proofs.option_deletions.put_decks.Given as goal

-- the decks ahead lead to what all lead to
abbrev pub invariant-pages : goal.invariant-pages
invariant-pages g l = record {
  same : g.K.Lookup.keeping l.keeper ≡ g.K.Lookup.keeping l.fn.keeper;
  leads : WhereTold (g.K.Lookup.keeping l.fn.keeper) (λ h. LeadsTo l.deleted.options l.walk l.change l.fn.change h.rows);
  goes : GoesOn (g.K.Lookup.health l.fn.keeper) (g.K.Lookup.health l.keeper);
}

abbrev pub decreases-pages : goal.decreases-pages
decreases-pages g l = most_pages l.walk
