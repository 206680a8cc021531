use Rattle.std.proofs.Common.{◌≡◌, ◌≤ℤ◌, ◌+ℤ◌, ℤ, pos, length}
use Rattle.std.specs.Option.{option_or}
use Rattle.ak_filtered.specs.Builds.{due_from, due_in}
use Rattle.ak_filtered.specs.Refills.{dues_of}
use Rattle.ak_filtered.proofs.refills.Dues.of.Given as goal

-- the dues so far, and those of the cards that are left, are all, and they stay below 0
abbrev pub invariant-loop-id : goal.invariant-loop-id
invariant-loop-id l = record {
  dues : (id : ℤ) → option_or (dues_of l.dues id) (due_from l.due l.rest id) ≡ due_in l.cards id;
  below : (l.due +ℤ pos (length l.rest)) ≤ℤ pos 0;
}

abbrev pub decreases-loop-id : goal.decreases-loop-id
decreases-loop-id l = length l.rest
