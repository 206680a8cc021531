use Rattle.std.proofs.Common.{◌≡◌, ◌<◌, ◌≤ℤ◌, pos, drop}
use Rattle.ak_base.specs.declared.names.Table.TheVariants as tables
use Rattle.ak_edit_calls.proofs.MakingRows.{MakesMoreIn}
use Rattle.ak_edit_calls.specs.NewNames.{first_name}
use Rattle.ak_faults.specs.Causes.{GoesOn}
use Rattle.ak_keep.specs.Collections.{IsId}
use Rattle.ak_keep.specs.Keepers.{WhereTold}
use Rattle.ak_deck_paths.specs.Additions.{id_of_last}
use Rattle.ak_deck_paths.specs.NewDecks.{IsNewDeck}
use Rattle.ak_deck_paths.proofs.made_decks.new_decks.Given as goal

-- with decks for the other paths from the next name on, the decks so far are those for all paths
abbrev pub invariant-loop-path : goal.invariant-loop-path
invariant-loop-path g l = record {
  id : pos 1 ≤ℤ l.first.id;
  made : WhereTold (g.K.Lookup.keeping l.fn.keeper) (MakesMoreIn IsNewDeck (first_name tables.Deck l.fn.at) l.paths (drop l.path-index l.paths) l.first l.decks);
  last : 0 < l.path-index → IsId (id_of_last (pos 0) l.decks);
  same : g.K.Lookup.keeping l.keeper ≡ g.K.Lookup.keeping l.fn.keeper;
  goes : GoesOn (g.K.Lookup.health l.fn.keeper) (g.K.Lookup.health l.keeper);
}
