use Rattle.std.proofs.Common.{◌≡◌, drop}
use Rattle.ak_deck_paths.specs.DeckPaths.{first_id, is_in_way}
use Rattle.ak_deck_paths.proofs.held_decks.id_in_way.Given as goal

-- none of the decks so far is in the way
abbrev pub invariant-loop-deck : goal.invariant-loop-deck
invariant-loop-deck l = first_id (is_in_way l.old l.moved) (drop l.deck-index l.decks) ≡ first_id (is_in_way l.old l.moved) l.decks
