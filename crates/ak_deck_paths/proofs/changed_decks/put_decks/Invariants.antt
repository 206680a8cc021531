use Rattle.std.proofs.Common.{◌≡◌}
use Rattle.ak_deck_paths.specs.ChangedDecks.{decks_over}
use Rattle.ak_deck_paths.proofs.changed_decks.put_decks.Given as goal

-- with the other decks, the changes so far are those of all
abbrev pub invariant-loop-deck : goal.invariant-loop-deck
invariant-loop-deck l = decks_over l.deck-iterator.rest.items l.change ≡ decks_over l.fn.decks.items l.fn.change
