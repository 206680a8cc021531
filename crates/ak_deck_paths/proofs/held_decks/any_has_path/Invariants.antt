use Rattle.std.proofs.Common.{◌≡◌, drop}
use Rattle.std.specs.List.{list_any}
use Rattle.ak_deck_paths.specs.DeckPaths.{has_path}
use Rattle.ak_deck_paths.proofs.held_decks.any_has_path.Given as goal

-- none of the decks so far has the path
abbrev pub invariant-loop-deck : goal.invariant-loop-deck
invariant-loop-deck l = list_any (has_path l.path) (drop l.deck-index l.decks) ≡ list_any (has_path l.path) l.decks
