use Rattle.std.proofs.Common.{◌≡◌}
use Rattle.ak_notes.specs.MadeNotes.{cards_over}
use Rattle.ak_notes.proofs.made_notes.put_cards.Given as goal

-- with the other cards, the changes so far are those of all
abbrev pub invariant-loop-card : goal.invariant-loop-card
invariant-loop-card l = cards_over l.card-iterator.rest.items l.change ≡ cards_over l.fn.cards.items l.fn.change
