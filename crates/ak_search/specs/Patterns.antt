-- What a pattern matches: `*` any characters, `_` one, and each other character itself, whatever its ASCII case.
use Rattle.std.specs.Prelude.{ℕ, ◌==◌, Bool, true, false, not, ◌&&◌, ◌||◌, if◌then◌else◌, List, [], ◌∷◌, ◌++◌, map}
use Rattle.std.specs.Char.{eq_ignore_ascii_case, is_ascii_alphanumeric}
use Rattle.std.specs.Str.{chars}
use Rattle.ak_search.specs.declared.source_chars.SourceChar.{SourceChar}
use Rattle.ak_search.specs.declared.patterns.PatternItem.{PatternItem}
use Rattle.ak_search.specs.declared.patterns.PatternItem.TheVariants.{Any, One, Apart, Is}

-- ---- which pattern is written

-- a bare `*` stands for any characters, a bare `_` for one, and all else for itself
abbrev pub item_of : SourceChar → PatternItem
item_of s =
    if s.literal then Is s.letter
    else (if s.letter == 42 then Any
    else (if s.letter == 95 then One
    else Is s.letter))

-- the pattern that characters write
abbrev pub pattern_of : List SourceChar → List PatternItem
pattern_of source_chars = map item_of source_chars

-- ---- what it matches

-- whether the item may stand for no character, or for many
abbrev pub is_any : PatternItem → Bool
is_any Any = true
is_any One = false
is_any Apart = false
is_any (Is own) = false

-- whether the item, if it stands for one character, stands for that one; `Any` stands for any number of them
abbrev pub takes : PatternItem → ℕ → Bool
takes Any letter = false
takes One letter = true
takes Apart letter = not (is_ascii_alphanumeric letter)
takes (Is own) letter = eq_ignore_ascii_case own letter

-- whether the pattern stands for all the characters
unfoldable pub fits : List PatternItem → List ℕ → Bool
fits [] [] = true
fits [] (letter ∷ letters) = false
fits (item ∷ pattern) [] = is_any item && fits pattern []
fits (item ∷ pattern) (letter ∷ letters) =
    if is_any item then fits pattern (letter ∷ letters) || fits (item ∷ pattern) letters
    else takes item letter && fits pattern letters

-- whether the pattern matches the whole text, which is given by its bytes
abbrev pub matches : List PatternItem → List ℕ → Bool
matches pattern text = fits pattern (chars text)

-- whether the item is that character itself, written in the same case
abbrev pub is_letter : PatternItem → ℕ → Bool
is_letter Any letter = false
is_letter One letter = false
is_letter Apart letter = false
is_letter (Is own) letter = own == letter

-- whether the pattern is those characters themselves, and nothing else
abbrev pub are_letters : List PatternItem → List ℕ → Bool
are_letters [] [] = true
are_letters [] (letter ∷ letters) = false
are_letters (item ∷ pattern) [] = false
are_letters (item ∷ pattern) (letter ∷ letters) = is_letter item letter && are_letters pattern letters

-- the pattern anywhere in a text
abbrev pub anywhere : List PatternItem → List PatternItem
anywhere pattern = Any ∷ (pattern ++ (Any ∷ []))

-- the pattern as a word: with no ASCII letter or digit right beside it, in a text that is between two spaces
abbrev pub as_word : List PatternItem → List PatternItem
as_word pattern = Any ∷ (Apart ∷ (pattern ++ (Apart ∷ (Any ∷ []))))

-- whether the pattern matches the text between two spaces
abbrev pub matches_spaced : List PatternItem → List ℕ → Bool
matches_spaced pattern text = fits pattern (32 ∷ (chars text ++ (32 ∷ [])))
