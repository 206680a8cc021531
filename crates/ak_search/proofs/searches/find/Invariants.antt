use Rattle.std.proofs.Common.{◌≡◌, false}
use Rattle.std.specs.List.Sorted.{IsStrictlySortedBy}
use Rattle.std.specs.Ordering.{int_cmp}
use Rattle.ak_base.specs.declared.names.Table.TheVariants as tables
use Rattle.ak_faults.specs.Causes.{GoesOn}
use Rattle.ak_keep.specs.Keepers.{WhereTold}
use Rattle.ak_keep.specs.Walks.{most_pages}
use Rattle.ak_search.specs.Grammar.{pieces_in}
use Rattle.ak_search.specs.Passes.{TakesFrom}
use Rattle.ak_search.proofs.Telling.{HasFound}
use Rattle.ak_search.proofs.searches.find.Given as goal

-- what was found, with the hits ahead, are all hits, and what is ahead is past what was found
abbrev pub invariant-pages : goal.invariant-pages
invariant-pages g l = record {
  kept : g.R.Lookup.kept l.from ≡ g.R.Lookup.kept l.fn.from;
  same : g.R.Lookup.keeping l.from ≡ g.R.Lookup.keeping l.fn.from;
  goes : GoesOn (g.R.Lookup.health l.fn.from) (g.R.Lookup.health l.from);
  found : WhereTold (g.R.Lookup.keeping l.fn.from) (λ c. HasFound (pieces_in l.fn.expr.tokens.items) l.fn.day l.search l.found l.walk c.rows);
  table : l.walk.past.table ≡ tables.Card;
  takes : l.walk.done ≡ false → TakesFrom l.found l.walk.past.id;
  ascend : IsStrictlySortedBy int_cmp l.found;
}

abbrev pub decreases-pages : goal.decreases-pages
decreases-pages g l = most_pages l.walk
