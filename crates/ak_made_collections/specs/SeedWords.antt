-- The words that the generator splitmix64 gives from a seed, by their numbers.
use Rattle.std.specs.Prelude.{ℕ, ◌+◌, ◌*◌, ◌%◌, ◌^◌}
use Rattle.ak_io.specs.Generator.{next_state, word_of}

-- the state of the generator once it gave so many words
abbrev pub state_after : ℕ → ℕ → ℕ
state_after seed count = (seed + count * 0x9E37_79B9_7F4A_7C15 % 2 ^ 64) % 2 ^ 64

-- the word of a number, counted from 0
unfoldable pub nth_word : ℕ → ℕ → ℕ
nth_word seed number = word_of (next_state (state_after seed number))
