-- How large a collection may be that is made of a seed.
use Rattle.std.specs.Prelude.{ℕ, ◌≤◌, nat_lt, if◌then◌else◌, Option, Some, None}

-- from 1 to 20,000 notes
pub record IsSize (notes : ℕ) : Type 0 where
  pub low : 1 ≤ notes
  pub high : notes ≤ 20_000

-- so many notes, if a collection may have so many
abbrev pub size_in : ℕ → Option ℕ
size_in notes = if nat_lt notes 1 then None else if nat_lt 20_000 notes then None else Some notes
