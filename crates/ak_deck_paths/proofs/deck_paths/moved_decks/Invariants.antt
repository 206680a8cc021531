use Rattle.std.proofs.Common.{◌≡◌, ◌++◌, drop}
use Rattle.ak_deck_paths.specs.DeckPaths.{moved_decks}
use Rattle.ak_deck_paths.proofs.deck_paths.moved_decks.Given as goal

-- the decks so far, and those of the decks that are left, are all
abbrev pub invariant-loop-deck : goal.invariant-loop-deck
invariant-loop-deck l = l.moved ++ moved_decks l.old l.new (drop l.deck-index l.decks) ≡ moved_decks l.old l.new l.decks
