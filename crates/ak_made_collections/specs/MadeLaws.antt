-- What the laws on made collections speak of.
use Rattle.std.specs.Prelude.{ℕ, ◌%◌, ◌==◌, if◌then◌else◌}

-- how many cards a note has: one if 3 divides its number, and else two
abbrev pub card_count : ℕ → ℕ
card_count note = if note % 3 == 0 then 1 else 2
