-- The tags and fields that a call is given, and why it refuses them.
use Rattle.std.specs.Prelude.{◌≡◌, ℕ, pos, Bool, false, ◌==◌, nat_le, nat_lt, if◌then◌else◌, List, [], ◌∷◌, length, Option, Some, None}
use Rattle.std.specs.List.{list_any}
use Rattle.std.specs.Option.{option_or}
use Rattle.ak_base.specs.declared.errors.RowFault.{RowFault}
use Rattle.ak_base.specs.declared.errors.RowFault.TheVariants.{BadCode, TooLong}
use Rattle.ak_base.specs.declared.note_types.NoteType.{NoteType}
use Rattle.ak_edit.specs.Refusals.{OrElse, Refusal}
use Rattle.ak_edit.specs.declared.desk_faults.DeskFault.TheVariants as faults

-- ---- tags
-- a byte that no tag may have: a space, or one under it
abbrev pub is_space_or_less : ℕ → Bool
is_space_or_less byte = nat_le byte 32

-- a tag is not empty, has at most 512 bytes, and each of them is over a space
abbrev pub tag_fault : List ℕ → Option RowFault
tag_fault tag =
    if length tag == 0 then Some (BadCode 5 (pos 0))
    else if nat_lt 512 (length tag) then Some (TooLong 5 (length tag))
    else if list_any is_space_or_less tag then Some (BadCode 5 (pos 0))
    else None

-- the fault of the first tag that has one
abbrev pub tags_fault : List (List ℕ) → Option RowFault
tags_fault [] = None
tags_fault (tag ∷ tags) = option_or (tag_fault tag) (tags_fault tags)

-- ---- fields
-- a field does not have the byte that separates fields
abbrev pub field_fault : List ℕ → Option RowFault
field_fault field = if list_any (λ byte. byte == 31) field then Some (BadCode 6 (pos 0)) else None

-- the fault of the first field that has one
abbrev pub fields_fault : List (List ℕ) → Option RowFault
fields_fault [] = None
fields_fault (field ∷ fields) = option_or (field_fault field) (fields_fault fields)

-- ---- both
-- the first fault of the tags, and then of the fields
abbrev pub given_fault : List (List ℕ) → List (List ℕ) → Option RowFault
given_fault fields tags = option_or (tags_fault tags) (fields_fault fields)

-- there are as many fields as the type has
abbrev pub RefusesCount : NoteType → List (List ℕ) → Refusal
RefusesCount note_type fields fault =
    ((length fields == length note_type.fields) ≡ false) × (fault ≡ faults.FieldCount (length note_type.fields) (length fields))

-- a tag or a field is out of its range
abbrev pub RefusesTexts : List (List ℕ) → List (List ℕ) → Refusal
RefusesTexts fields tags fault = (row : RowFault) × (given_fault fields tags ≡ Some row) × (fault ≡ faults.Row row)

-- the tests of fields and tags for a note of this type
abbrev pub RefusesGiven : NoteType → List (List ℕ) → List (List ℕ) → Refusal
RefusesGiven note_type fields tags = OrElse (RefusesCount note_type fields) (RefusesTexts fields tags)
