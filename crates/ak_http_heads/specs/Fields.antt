-- The fields of a head by their names, and what the five of a request say.
use Rattle.std.specs.Prelude.{ℕ, Bool, ◌&&◌, ◌==◌, if◌then◌else◌, List, [], ◌∷◌, map, length, Option, Some, None, codes}
use Rattle.std.specs.Char.{to_ascii_lowercase}
use Rattle.std.specs.Cmp.Lexicographic.{pointwise}
use Rattle.std.specs.Option.{option_and_then}
use Rattle.std.specs.Str.Parse.{digits_value}
use Rattle.ak_base.specs.Decimals.{number_of}
use Rattle.ak_base.specs.Keys.{are_lower_hex, host_digits}

-- whether two texts are the same
abbrev pub is_text : List ℕ → List ℕ → Bool
is_text text other = pointwise ◌==◌ text other

-- whether a field has this name, without regard to ASCII case
abbrev pub has_name : List ℕ → List ℕ × List ℕ → Bool
has_name name field = is_text (map to_ascii_lowercase field.0) (map to_ascii_lowercase name)

-- the values of the fields of a name, in their order; each is without the white space around it
abbrev pub values_of : List ℕ → List (List ℕ × List ℕ) → List (List ℕ)
values_of name [] = []
values_of name (field ∷ fields) = if has_name name field then field.1 ∷ values_of name fields else values_of name fields

-- the first of them
abbrev pub first_of : List (List ℕ) → Option (List ℕ)
first_of [] = None
first_of (value ∷ others) = Some value

-- the value of a field that stands exactly once
abbrev pub sole : List (List ℕ) → Option (List ℕ)
sole [] = None
sole (value ∷ []) = Some value
sole (value ∷ second ∷ others) = None

-- the value of the field of this name, which stands exactly once
abbrev pub value_of : List ℕ → List (List ℕ × List ℕ) → Option (List ℕ)
value_of name fields = sole (values_of name fields)

-- the number of a session: 16 lower-case hexadecimal digits
unfoldable pub session_number : List ℕ → Option ℕ
session_number text = if (length text == 16) && are_lower_hex text then Some (digits_value 16 text) else None

-- who asks: 32 lower-case hexadecimal digits
abbrev pub host_in : List (List ℕ × List ℕ) → Option (List ℕ)
host_in fields = option_and_then host_digits (value_of (codes "x-anki-key") fields)

-- in which sync
abbrev pub session_in : List (List ℕ × List ℕ) → Option ℕ
session_in fields = option_and_then session_number (value_of (codes "x-anki-session") fields)

-- with which step of it
abbrev pub step_in : List (List ℕ × List ℕ) → Option ℕ
step_in fields = option_and_then (number_of 18_446_744_073_709_551_615) (value_of (codes "x-anki-step") fields)

-- over which moment of the server's collection
abbrev pub base_in : List (List ℕ × List ℕ) → Option ℕ
base_in fields = option_and_then (number_of 9_223_372_036_854_775_807) (value_of (codes "x-anki-base") fields)

-- and of how many bytes the body is
abbrev pub length_in : List (List ℕ × List ℕ) → Option ℕ
length_in fields = option_and_then (number_of 268_435_456) (value_of (codes "content-length") fields)
