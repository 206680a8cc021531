-- Numbers less than 0 as the program makes them.
use Rattle.std.proofs.Common.{◌≡◌, ℕ, ◌≤◌, pos, ◌-ℤ◌, to_z, of_z, w64, refl, arith}
use Rattle.std.proofs.lemmas.Int.{ints, to_z_pos, to_z-of_z}
use mir.Syntax.{w128}

pub negative_made : (n : ℕ) → n ≤ 9_223_372_036_854_775_808
    → to_z w64 (of_z w64 (to_z w128 (of_z w128 (pos 0 -ℤ to_z w128 n)))) ≡ pos 0 -ℤ pos n
negative_made n h =
    rw (to_z_pos w128 n (omega (arith, h)), to_z-of_z w128 (pos 0 -ℤ pos n) (omega (arith, ints, h)), to_z-of_z w64 (pos 0 -ℤ pos n) (omega (arith, ints, h))) refl
