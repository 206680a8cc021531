-- A text without its marks of HTML, and when a field is empty.
use Rattle.std.specs.Prelude.{ℕ, zero, suc, Bool, true, false, not, ◌&&◌, ◌||◌, ◌==◌, if◌then◌else◌, List, [], ◌∷◌, codes}
use Rattle.ak_base.specs.Cuts.{begins, has}

-- without each piece from `<` to the next `>`: a `<` with no `>` after it stays. The truth value says if the bytes begin inside a piece
abbrev pub removed : Bool → List ℕ → List ℕ
removed inside [] = []
removed true (byte ∷ bytes) = if begins (codes ">") (byte ∷ bytes) then removed false bytes else removed true bytes
removed false (byte ∷ bytes) = if begins (codes "<") (byte ∷ bytes) && has (codes ">") bytes then removed true bytes else byte ∷ removed false bytes

-- with a space in place of each `&nbsp;`. The number is how many bytes still belong to one that was replaced
abbrev pub spaced : ℕ → List ℕ → List ℕ
spaced left [] = []
spaced (suc left) (byte ∷ bytes) = spaced left bytes
spaced zero (byte ∷ bytes) = if begins (codes "&nbsp;") (byte ∷ bytes) then 32 ∷ spaced 5 bytes else byte ∷ spaced 0 bytes

-- the text without its pieces, and then with a space for each `&nbsp;`
abbrev pub stripped : List ℕ → List ℕ
stripped text = spaced 0 (removed false text)

-- whether no `<` and no `&` is among the bytes
abbrev pub is_plain : List ℕ → Bool
is_plain [] = true
is_plain (byte ∷ bytes) = not ((byte == 60) || (byte == 38)) && is_plain bytes

-- space, tab, line feed, form feed, carriage return
abbrev pub is_white : ℕ → Bool
is_white byte = (byte == 32) || (byte == 9) || (byte == 10) || (byte == 12) || (byte == 13)

-- nothing but white space
abbrev pub blank : List ℕ → Bool
blank [] = true
blank (byte ∷ bytes) = is_white byte && blank bytes

-- a field with this value counts as empty
abbrev pub empty_value : List ℕ → Bool
empty_value text = blank (stripped text)
