-- Factors as texts: decimals of at most three places, counted in thousandths.
use Rattle.std.specs.Prelude.{ℕ, ℤ, pos, negsuc, ◌+◌, ◌-◌, ◌*◌, ◌/◌, ◌%◌, ◌&&◌, ◌==◌, if◌then◌else◌, List, [], ◌∷◌, ◌++◌}
use Rattle.std.specs.Prelude.{Option, Some, None, option_map, option_and_then, codes, decimal}
use Rattle.std.specs.Char.{is_ascii_digit}
use Rattle.ak_base.specs.Cuts.{has, front, behind}
use Rattle.ak_base.specs.Decimals.{number_of}

-- how many thousandths the digits after a point are: one to three of them
abbrev pub thousandths : List ℕ → Option ℕ
thousandths (a ∷ []) = if is_ascii_digit a then Some (100 * (a - 48)) else None
thousandths (a ∷ b ∷ []) = if is_ascii_digit a && is_ascii_digit b then Some (100 * (a - 48) + 10 * (b - 48)) else None
thousandths (a ∷ b ∷ c ∷ []) =
    if is_ascii_digit a && is_ascii_digit b && is_ascii_digit c then Some (100 * (a - 48) + 10 * (b - 48) + (c - 48)) else None
thousandths digits = None

-- whole ones and thousandths, in thousandths
abbrev pub joined : Option ℕ → Option ℕ → Option ℤ
joined whole part = option_and_then (λ w. option_map (λ p. pos (1_000 * w + p)) part) whole

-- the thousandths that a text stands for: a whole number of at most six digits, which a point and one to three digits may follow
unfoldable pub decimal_of : List ℕ → Option ℤ
decimal_of text =
    if has (codes ".") text
    then joined (number_of 999_999 (front (codes ".") text)) (thousandths (behind (codes ".") text))
    else joined (number_of 999_999 text) (Some 0)

-- a point and these digits, without the zeros at their end; nothing, if all are zeros
abbrev pub places_text : ℕ → ℕ → ℕ → List ℕ
places_text a b c =
    if c == 0
    then (if b == 0 then (if a == 0 then [] else codes "." ++ decimal a) else codes "." ++ decimal a ++ decimal b)
    else codes "." ++ decimal a ++ decimal b ++ decimal c

-- the text of so many thousandths; `0` for a number below
unfoldable pub decimal_text : ℤ → List ℕ
decimal_text (pos n) = decimal (n / 1_000) ++ places_text (n / 100 % 10) (n / 10 % 10) (n % 10)
decimal_text (negsuc n) = codes "0"
