-- The checksum of a note's first field.
use Rattle.std.specs.Prelude.{ℕ, ℤ, pos, List, take}
use Rattle.std.specs.Int.{w32, from_be_bytes}
use Rattle.sha1.specs.Sha1.{sha1}
use Rattle.ak_filters.specs.Strips.{stripped}

-- the first four bytes of the SHA-1, the first being worth most
unfoldable pub first_four : List ℕ → ℕ
first_four bytes = from_be_bytes w32 (take 4 (sha1 bytes))

-- the checksum of a text, which is stripped first
abbrev pub checksum : List ℕ → ℤ
checksum text = pos (first_four (stripped text))
