use Rattle.std.proofs.Common.{◌≡◌, pos, drop}
use Rattle.ak_deck_paths.specs.Additions.{id_of_last}
use Rattle.ak_deck_paths.proofs.deck_additions.id_of_last.Given as goal

-- the last of the others, or the last so far
abbrev pub invariant-loop-deck : goal.invariant-loop-deck
invariant-loop-deck l = id_of_last l.id (drop l.deck-index l.decks) ≡ id_of_last (pos 0) l.decks
