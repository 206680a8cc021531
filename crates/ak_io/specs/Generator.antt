-- The words of the generator splitmix64, all modulo 2^64.
use Rattle.std.specs.Prelude.{ℕ, ◌+◌, ◌*◌, ◌/◌, ◌%◌, ◌^◌, bit_xor}

-- the state that a word leaves
abbrev pub next_state : ℕ → ℕ
next_state state = (state + 0x9E37_79B9_7F4A_7C15) % 2 ^ 64

-- a step of mixing: the upper bits come down so far, and all are multiplied
abbrev pub mixed : ℕ → ℕ → ℕ → ℕ
mixed down factor word = bit_xor word (word / 2 ^ down) * factor % 2 ^ 64

-- the word of a state
abbrev pub word_of : ℕ → ℕ
word_of state =
    let word = mixed 27 0x94D0_49BB_1331_11EB (mixed 30 0xBF58_476D_1CE4_E5B9 state) in bit_xor word (word / 2 ^ 31)
