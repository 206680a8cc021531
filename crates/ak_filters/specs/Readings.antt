-- The readings of a text, and the text with a part of each reading in its place. Bytes serve for characters: each sign that ends a base
-- or an inside is one byte, which is no part of another character.
use Rattle.std.specs.Prelude.{◌≡◌, ◌⊎◌, ℕ, zero, suc, ◌+◌, ◌-◌, Bool, false, not, ◌&&◌, ◌||◌, ◌==◌, if◌then◌else◌, List, [], ◌∷◌, ◌++◌, length, take, drop, codes}
use Rattle.std.specs.List.{list_all}
use Rattle.std.specs.Cmp.Lexicographic.{pointwise}
use Rattle.ak_base.specs.Cuts.{begins, has, front, behind}
use Rattle.ak_filters.specs.declared.readings.ReadingPart.{ReadingPart}
use Rattle.ak_filters.specs.declared.readings.ReadingPart.TheVariants as parts

-- a base has no space, `>`, `[` or `]`
abbrev pub in_base : ℕ → Bool
in_base byte = not ((byte == 32) || (byte == 62) || (byte == 91) || (byte == 93))

-- an inside has no `]` and no line feed
abbrev pub in_inside : ℕ → Bool
in_inside byte = not ((byte == 93) || (byte == 10))

-- a base is not empty
abbrev pub is_base : List ℕ → Bool
is_base base = not (length base == 0) && list_all in_base base

-- nor is an inside
abbrev pub is_inside : List ℕ → Bool
is_inside inside = not (length inside == 0) && list_all in_inside inside

-- behind its `[` an inside begins, which ends at a `]`
abbrev pub begins_inside : List ℕ → Bool
begins_inside text = has (codes "]") text && is_inside (front (codes "]") text)

-- a base begins here, and behind it an inside in brackets
abbrev pub begins_reading : List ℕ → Bool
begins_reading text = has (codes "[") text && (is_base (front (codes "[") text) && begins_inside (behind (codes "[") text))

-- without one space at the front
abbrev pub unspaced : List ℕ → List ℕ
unspaced text = if begins (codes " ") text then drop 1 text else text

-- the base of the reading that a text begins with, after its space if it has one
abbrev pub base_of : List ℕ → List ℕ
base_of text = front (codes "[") (unspaced text)

-- the inside of that reading
abbrev pub inside_of : List ℕ → List ℕ
inside_of text = front (codes "]") (behind (codes "[") (unspaced text))

-- the bytes of that reading, with its space and its brackets
abbrev pub reading_length : List ℕ → ℕ
reading_length text = (if begins (codes " ") text then 1 else 0) + (length (base_of text) + 1 + length (inside_of text) + 1)

-- what is shown of a reading in its place
abbrev pub part_text : ReadingPart → List ℕ → List ℕ → List ℕ
part_text parts.Base base inside = base
part_text parts.Inside base inside = inside
part_text parts.Ruby base inside = codes "<ruby><rb>" ++ (base ++ (codes "</rb><rt>" ++ (inside ++ codes "</rt></ruby>")))

-- what takes the place of the reading that a text begins with. One of a sound stays as it is, with its space
abbrev pub shown_reading : ReadingPart → List ℕ → List ℕ
shown_reading part text = if begins (codes "sound:") (inside_of text) then take (reading_length text) text else part_text part (base_of text) (inside_of text)

-- the text with the part in place of each reading. The readings are taken from left to right, each at the first place at which one begins,
-- so that its base is as long as can be. The number is how many bytes still belong to a reading that was shown
abbrev pub shown_from : ReadingPart → ℕ → List ℕ → List ℕ
shown_from part left [] = []
shown_from part (suc left) (byte ∷ bytes) = shown_from part left bytes
shown_from part zero (byte ∷ bytes) =
    if begins_reading (unspaced (byte ∷ bytes)) then shown_reading part (byte ∷ bytes) ++ shown_from part (reading_length (byte ∷ bytes) - 1) bytes
    else byte ∷ shown_from part 0 bytes

-- the text with the part in place of each reading
abbrev pub readings_shown : ReadingPart → List ℕ → List ℕ
readings_shown part text = shown_from part 0 text

-- ---- the same, piece by piece

-- the bytes after the last line feed, if that many came before them
abbrev pub line_length : ℕ → List ℕ → ℕ
line_length bytes_before [] = bytes_before
line_length bytes_before (byte ∷ bytes) = line_length (if byte == 10 then 0 else bytes_before + 1) bytes

-- a sign that ends a base, and what stands before it; without a sign nothing does
abbrev pub IsSignAfter : List ℕ → List ℕ → Type 0
IsSignAfter before sign = ((sign ≡ []) × (before ≡ [])) ⊎ (sign ≡ codes " ") ⊎ (sign ≡ codes ">")

-- a text is cut at its last space, if it has one
abbrev pub IsCutAtSpace : List ℕ → List ℕ → List ℕ → List ℕ → Type 0
IsCutAtSpace text before sign after =
    ((sign ≡ []) × (before ≡ []) × (after ≡ text) × (has (codes " ") text ≡ false))
    ⊎ ((sign ≡ codes " ") × (text ≡ before ++ (codes " " ++ after)) × (has (codes " ") after ≡ false))

-- what was made of a text that ends at a `]`, and of all after it, is what was made before, and then the text with the part shown
abbrev pub ShowsUpTo : ReadingPart → List ℕ → List ℕ → List ℕ → Type 0
ShowsUpTo part text old new =
    (others : List ℕ) → old ++ shown_from part 0 (text ++ (codes "]" ++ others)) ≡ new ++ shown_from part 0 others

-- what takes the place of a reading with this sign before its base: a `>` belongs to no reading
abbrev pub signed_text : ReadingPart → List ℕ → List ℕ → List ℕ → List ℕ
signed_text part sign base inside =
    if begins (codes "sound:") inside then sign ++ (base ++ (codes "[" ++ (inside ++ codes "]")))
    else (if pointwise ◌==◌ sign (codes ">") then sign ++ part_text part base inside else part_text part base inside)
