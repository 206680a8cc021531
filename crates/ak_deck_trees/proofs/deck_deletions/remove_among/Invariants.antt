use Rattle.std.proofs.Common.{◌≡◌, drop}
use Rattle.ak_deck_trees.specs.DeckDeletions.{swept}
use Rattle.ak_deck_trees.specs.Trees.{goes_with}
use Rattle.ak_faults.specs.Causes.{GoesOn}
use Rattle.ak_keep.specs.Keepers.{WhereTold}
use Rattle.ak_deck_trees.proofs.deck_deletions.remove_among.Given as goal

-- what the rest makes of the changes so far is what all rows make of those at first
abbrev pub invariant-loop-row : goal.invariant-loop-row
invariant-loop-row g l = record {
  same : g.K.Lookup.keeping l.keeper ≡ g.K.Lookup.keeping l.fn.keeper;
  removed : WhereTold (g.K.Lookup.keeping l.fn.keeper) (λ h. swept (goes_with l.root h.rows) (drop l.row-index l.among) l.change ≡ swept (goes_with l.root h.rows) l.among l.fn.change);
  goes : GoesOn (g.K.Lookup.health l.fn.keeper) (g.K.Lookup.health l.keeper);
}
