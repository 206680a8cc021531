use Rattle.std.proofs.Common.{◌≡◌, drop}
use Rattle.std.specs.List.{list_all}
use Rattle.ak_deck_trees.specs.Trees.{is_card_in_tree}
use Rattle.ak_faults.specs.Causes.{GoesOn}
use Rattle.ak_keep.specs.Keepers.{WhereTold}
use Rattle.ak_deck_trees.proofs.trees.all_in_tree.Given as goal

-- the cards that were passed are in the subtree
abbrev pub invariant-loop-card : goal.invariant-loop-card
invariant-loop-card g l = record {
  all : WhereTold (g.R.Lookup.keeping l.fn.from) (λ h. list_all (is_card_in_tree l.root h.rows) (drop l.card-index l.cards) ≡ list_all (is_card_in_tree l.root h.rows) l.cards);
  kept : g.R.Lookup.kept l.from ≡ g.R.Lookup.kept l.fn.from;
  same : g.R.Lookup.keeping l.from ≡ g.R.Lookup.keeping l.fn.from;
  goes : GoesOn (g.R.Lookup.health l.fn.from) (g.R.Lookup.health l.from);
}
