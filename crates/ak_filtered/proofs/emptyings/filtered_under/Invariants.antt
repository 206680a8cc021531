use Rattle.std.proofs.Common.{◌≡◌, ◌++◌}
use Rattle.ak_filtered.specs.Emptyings.{filtered_under}
use Rattle.ak_filtered.proofs.emptyings.filtered_under.Given as goal

-- the decks so far, and those of the ones that are left, are those of all
abbrev pub invariant-loop-deck : goal.invariant-loop-deck
invariant-loop-deck l = l.below ++ filtered_under l.root l.deck-iterator.rest.items ≡ filtered_under l.root l.fn.decks
