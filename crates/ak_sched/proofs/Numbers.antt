-- Stored numbers that are counted from 0.
use Rattle.std.proofs.Common.{◌≡◌, ℕ, ℤ, pos, negsuc, ◌≤◌, ◌≤ℤ◌, arith, refl}
use Rattle.std.proofs.lemmas.Int.{ints}
use Rattle.ak_sched.specs.Counts.{clamped_to_zero}

pub clamped_le : (z : ℤ) (n : ℕ) → z ≤ℤ pos n → clamped_to_zero z ≤ n
clamped_le (pos m) n h = omega (arith, ints)
clamped_le (negsuc m) n h = omega (arith, ints)

pub le_clamped : (z : ℤ) (n : ℕ) → pos n ≤ℤ z → n ≤ clamped_to_zero z
le_clamped (pos m) n h = omega (arith, ints)
le_clamped (negsuc m) n h = omega (arith, ints)

pub pos_clamped : (z : ℤ) → pos 0 ≤ℤ z → pos (clamped_to_zero z) ≡ z
pos_clamped (pos m) h = refl
pos_clamped (negsuc m) h = omega (arith, ints)
