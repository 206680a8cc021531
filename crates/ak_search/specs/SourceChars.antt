-- The characters of a search text with their byte places, and which of them a backslash takes literally.
use Rattle.std.specs.Prelude.{ℕ, ◌+◌, ◌==◌, Bool, true, false, not, ◌&&◌, ◌||◌, if◌then◌else◌, List, [], ◌∷◌, ◌++◌, Option, Some, None, map}
use Rattle.std.specs.Char.{len_utf8, to_ascii_lowercase, encode_utf8}
use Rattle.std.specs.Str.{chars}
use Rattle.ak_search.specs.declared.source_chars.SourceChar.{SourceChar}

-- a quote, a star, a low line, a colon, a backslash: a backslash before one of them takes it literally
abbrev pub is_escapable : ℕ → Bool
is_escapable letter = (letter == 34) || (letter == 42) || (letter == 95) || (letter == 58) || (letter == 92)

-- a character of a text, with its place and whether a backslash takes it literally
abbrev pub source_char : Bool → ℕ → ℕ → SourceChar
source_char literal place letter = record { place = place; literal = literal; letter = letter }

-- one more character, behind a backslash that stands at the first place, if any; and the backslash behind it
abbrev pub next_source_chars : Option ℕ → ℕ → ℕ → List SourceChar
next_source_chars None place letter = if letter == 92 then [] else source_char false place letter ∷ []
next_source_chars (Some slash) place letter =
    if is_escapable letter then source_char true slash letter ∷ []
    else source_char false slash 92 ∷ (source_char false place letter ∷ [])

-- the place of a backslash that is still to be read with the next character
abbrev pub next_slash : Option ℕ → ℕ → ℕ → Option ℕ
next_slash None place letter = if letter == 92 then Some place else None
next_slash (Some slash) place letter = None

-- a backslash at the end is a character like another
abbrev pub last_source_chars : Option ℕ → List SourceChar
last_source_chars None = []
last_source_chars (Some slash) = source_char false slash 92 ∷ []

-- the characters from that place on
abbrev pub source_chars_from : Option ℕ → ℕ → List ℕ → List SourceChar
source_chars_from slash place [] = last_source_chars slash
source_chars_from slash place (letter ∷ letters) = next_source_chars slash place letter ++ source_chars_from (next_slash slash place letter) (place + len_utf8 letter) letters

-- the characters of a text
abbrev pub source_chars : List ℕ → List SourceChar
source_chars text = source_chars_from None 0 (chars text)

-- the text that characters stand for
abbrev pub text_of : List SourceChar → List ℕ
text_of [] = []
text_of (s ∷ ss) = encode_utf8 s.letter ++ text_of ss

-- and in lower case, where it is compared with a known word
abbrev pub lowered : List SourceChar → List ℕ
lowered source_chars = map to_ascii_lowercase (text_of source_chars)

-- whether it is that character, not taken literally
abbrev pub is_bare : ℕ → SourceChar → Bool
is_bare letter s = not s.literal && (s.letter == letter)

-- how many characters stand before the first that is that bare character: all, where none is
abbrev pub until : ℕ → List SourceChar → ℕ
until letter [] = 0
until letter (s ∷ ss) = if is_bare letter s then 0 else until letter ss + 1
