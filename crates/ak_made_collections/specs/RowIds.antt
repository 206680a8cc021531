-- The ids of the rows that are made of a seed, and when they were changed last.
use Rattle.std.specs.Prelude.{ℕ, ℤ, pos, ◌+◌}

-- of a note, and of a card: both count on from one moment, in milliseconds
abbrev pub made_id : ℕ → ℤ
made_id number = pos (1_500_000_000_000 + number)

-- of a review
abbrev pub made_review_id : ℕ → ℤ
made_review_id number = pos (1_600_000_000_000 + number)

-- when a note or a card was changed last, in seconds
abbrev pub made_stamp : ℤ
made_stamp = pos 1_600_000_000
