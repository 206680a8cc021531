use Rattle.std.proofs.Common.{◌≡◌, ℤ, length}
use Rattle.std.specs.Option.{option_or}
use Rattle.ak_filtered.specs.HeldDecks.{flags_in}
use Rattle.ak_filtered.specs.HomeDecks.{flags_of}
use Rattle.ak_filtered.proofs.held_decks.HeldDecks.of.Given as goal

-- the decks so far, and those that are left, are all
abbrev pub invariant-loop-deck : goal.invariant-loop-deck
invariant-loop-deck l = (id : ℤ) → option_or (flags_of l.made id) (flags_in l.rest id) ≡ flags_in l.decks id

abbrev pub decreases-loop-deck : goal.decreases-loop-deck
decreases-loop-deck l = length l.rest
