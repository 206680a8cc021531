-- Whole numbers as texts of decimal digits.
use Rattle.std.specs.Prelude.{ℕ, Bool, false, not, ◌&&◌, ◌==◌, nat_le, if◌then◌else◌, List, [], ◌∷◌, Option, Some, None}
use Rattle.std.specs.Char.{is_ascii_digit}
use Rattle.std.specs.Str.{all_ascii_digits}
use Rattle.std.specs.Str.Parse.{digits_value}

-- one digit or more; the first is 0 only if it is the only one
abbrev pub is_decimal : List ℕ → Bool
is_decimal [] = false
is_decimal (digit ∷ []) = is_ascii_digit digit
is_decimal (first ∷ second ∷ others) = not (first == 48) && all_ascii_digits (first ∷ second ∷ others)

-- a number, if it is at most `most`
abbrev pub at_most : ℕ → ℕ → Option ℕ
at_most most number = if nat_le number most then Some number else None

-- the number that a text of decimal digits stands for, if it is at most `most`
unfoldable pub number_of : ℕ → List ℕ → Option ℕ
number_of most text = if is_decimal text then at_most most (digits_value 10 text) else None
