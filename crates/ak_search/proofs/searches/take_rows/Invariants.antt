use Rattle.std.proofs.Common.{◌≡◌, ◌++◌, ℤ, length}
use Rattle.ak_base.specs.declared.names.Table.TheVariants as tables
use Rattle.ak_keep.specs.Collections.{AscendsPast, last_id}
use Rattle.ak_faults.specs.Causes.{GoesOn}
use Rattle.ak_keep.specs.Keepers.{WhereTold}
use Rattle.ak_search.specs.Holds.{asked_by, ids_of_hits}
use Rattle.ak_search.specs.Passes.{TakesFrom}
use Rattle.ak_search.specs.Searching.{SearchStays}
use Rattle.ak_search.proofs.searches.take_rows.Given as goal

-- what was found, with the hits of the rows that are left, is what the rows give
abbrev pub invariant-loop-row : goal.invariant-loop-row
invariant-loop-row g l = record {
  kept : g.R.Lookup.kept l.from ≡ g.R.Lookup.kept l.fn.from;
  same : g.R.Lookup.keeping l.from ≡ g.R.Lookup.keeping l.fn.from;
  goes : GoesOn (g.R.Lookup.health l.fn.from) (g.R.Lookup.health l.from);
  found : WhereTold (g.R.Lookup.keeping l.fn.from) (λ c. SearchStays l.fn.search l.search c.rows (λ day tree.
      l.fn.found ++ ids_of_hits (asked_by tree) c.rows day l.rows ≡ l.found ++ ids_of_hits (asked_by tree) c.rows day l.rest));
  ascend : (past : ℤ) → AscendsPast tables.Card past l.rows → TakesFrom l.fn.found past →
      (mid : ℤ) × AscendsPast tables.Card mid l.rest × TakesFrom l.found mid × (last_id mid l.rest ≡ last_id past l.rows);
}

abbrev pub decreases-loop-row : goal.decreases-loop-row
decreases-loop-row g l = length l.rest
