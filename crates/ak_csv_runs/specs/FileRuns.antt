-- What is known of what `import` and `export` are given.
use Rattle.std.specs.Prelude.{ℕ, ℤ, List, Option}
use Rattle.ak_keep.specs.Keepers.{Keeping}

-- the bytes to read, the keeper, the moments to come, and the bytes that were written
pub record FileOutside : Type 0 where
  pub left : Option (List ℕ)
  pub keeping : Keeping
  pub moments : Option (List ℤ)
  pub written : Option (List ℕ)

-- the same, by its parts
abbrev pub file_outside : Option (List ℕ) → Keeping → Option (List ℤ) → Option (List ℕ) → FileOutside
file_outside left keeping moments written = record { left = left; keeping = keeping; moments = moments; written = written }
