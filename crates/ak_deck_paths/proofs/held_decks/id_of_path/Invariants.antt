use Rattle.std.proofs.Common.{◌≡◌, drop}
use Rattle.ak_deck_paths.specs.DeckPaths.{first_id, has_path}
use Rattle.ak_deck_paths.proofs.held_decks.id_of_path.Given as goal

-- none of the decks so far has the path
abbrev pub invariant-loop-deck : goal.invariant-loop-deck
invariant-loop-deck l = first_id (has_path l.path) (drop l.deck-index l.decks) ≡ first_id (has_path l.path) l.decks
