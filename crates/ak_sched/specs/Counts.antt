-- Stored numbers that are counted from 0.
use Rattle.std.specs.Prelude.{ℕ, ℤ, pos, negsuc, ◌+◌, min}

-- the number, or 0 in place of a negative one
abbrev pub clamped_to_zero : ℤ → ℕ
clamped_to_zero (pos n) = n
clamped_to_zero (negsuc n) = 0

-- a count of answers or lapses after one more; at its last value it stays
abbrev pub next_count : ℕ → ℕ
next_count n = min (n + 1) 2_147_483_647
