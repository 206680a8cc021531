-- The days that an interval is fuzzed to, so that cards learned together come apart.
use Rattle.std.specs.Prelude.{ℕ, ◌+◌, ◌-◌, ◌*◌, ◌/◌, ◌%◌, max, if◌then◌else◌, nat_eq, nat_lt}

-- the days to either side of a number of days
abbrev pub around : ℕ → ℕ → ℕ × ℕ
around days spread = (days - spread, days + spread)

-- the first and the last day of the range
abbrev pub fuzz_range : ℕ → ℕ × ℕ
fuzz_range days =
    if nat_lt days 2 then (1, 1)
    else if nat_eq days 2 then (2, 3)
    else if nat_lt days 7 then around days (max 1 (days / 4))
    else if nat_lt days 30 then around days (max 2 (days * 15 / 100))
    else around days (max 4 (days * 5 / 100))

-- the day of the range that a word of chance picks
abbrev pub fuzzed : ℕ → ℕ → ℕ
fuzzed days word =
    let range = fuzz_range days in range.0 + word % (range.1 - range.0 + 1)
