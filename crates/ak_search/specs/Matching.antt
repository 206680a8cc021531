-- How a pattern is matched in one pass over the characters: a row of truth values, one before each item and one
-- behind the last, says which item may come next.
use Rattle.std.specs.Prelude.{◌≡◌, ℕ, zero, suc, Bool, true, false, ◌&&◌, ◌||◌, List, [], ◌∷◌, length}
use Rattle.std.specs.Str.{IsUtf8, chars}
use Rattle.ak_search.specs.declared.patterns.PatternItem.{PatternItem}
use Rattle.ak_search.specs.Patterns.{is_any, takes}

-- a row of so many truth values that are all false
abbrev pub falses : ℕ → List Bool
falses zero = []
falses (suc count) = false ∷ falses count

-- the row behind one more character. The two truth values say of the item before whether it took the character, and
-- whether it may stand for nothing more here
abbrev pub advanced : ℕ → Bool → Bool → List Bool → List PatternItem → List Bool
advanced letter taken skipped [] pattern = []
advanced letter taken skipped (live ∷ row) [] = taken ∷ row
advanced letter taken skipped (live ∷ row) (item ∷ pattern) =
    (taken || (is_any item && (live || skipped))) ∷ advanced letter (takes item letter && (live || skipped)) (is_any item && (live || skipped)) row pattern

-- the row after all the characters
abbrev pub advanced_by : List ℕ → List Bool → List PatternItem → List Bool
advanced_by [] row pattern = row
advanced_by (letter ∷ letters) row pattern = advanced_by letters (advanced letter false false row pattern) pattern

-- whether the text may end here
abbrev pub ended : Bool → List Bool → List PatternItem → Bool
ended skipped [] pattern = false
ended skipped (live ∷ row) [] = live || skipped
ended skipped (live ∷ row) (item ∷ pattern) = ended (is_any item && (live || skipped)) row pattern

-- the row of a pattern behind a text, which is given by its bytes
pub record IsRowAt (pattern : List PatternItem) (row : List Bool) (text : List ℕ) : Type 0 where
  pub utf8 : IsUtf8 text
  pub is : row ≡ advanced_by (chars text) (true ∷ falses (length pattern)) pattern
