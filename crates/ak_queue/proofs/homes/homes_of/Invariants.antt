use Rattle.std.proofs.Common.{◌≡◌, ℤ, length, int_cmp}
use Rattle.std.specs.BTreeMap.{get}
use Rattle.std.specs.Option.{option_or}
use Rattle.ak_queue.specs.Homes.{parts_at}
use Rattle.ak_queue.proofs.homes.homes_of.Given as goal

-- the paths so far, and those of the decks that are left, are those of all decks
abbrev pub invariant-loop-deck : goal.invariant-loop-deck
invariant-loop-deck l = (id : ℤ) → option_or (get int_cmp l.homes id) (parts_at l.rest id) ≡ parts_at l.decks id

abbrev pub decreases-loop-deck : goal.decreases-loop-deck
decreases-loop-deck l = length l.rest
