-- What the records of a file are tested by.
use Rattle.std.specs.Prelude.{◌≡◌, ℕ, ℤ, ◌==◌, pos, Bool, false, if◌then◌else◌, List, length, Option, Some, None}
use Rattle.std.specs.List.{filter_map, list_any}
use Rattle.std.specs.Cmp.Lexicographic.{pointwise}
use Rattle.std.specs.Option.{option_map}
use Rattle.std.specs.Ordering.{int_eq}
use Rattle.ak_base.specs.declared.names.Table.TheVariants as tables
use Rattle.ak_base.specs.declared.note_types.NoteType.{NoteType}
use Rattle.ak_base.specs.declared.rows.Row.{Row}
use Rattle.ak_base.specs.declared.rows.Row.TheVariants as rows
use Rattle.ak_keep.specs.Collections.{Rows, rows_past}
use Rattle.ak_keep.specs.Lookups.{note_type_at}

-- how many fields a note of the type has, if the type is held
abbrev pub field_count : ℤ → Rows → Option ℕ
field_count note_type held = option_map (λ (found : NoteType). length found.fields) (note_type_at held note_type)

-- the type's id, if it is held: notes of a type that is not held are all of another
abbrev pub own_type : ℤ → Rows → Option ℤ
own_type note_type held = option_map (λ (found : NoteType). note_type) (note_type_at held note_type)

-- whether notes of this type are the type's own
abbrev pub is_own : Option ℤ → ℤ → Bool
is_own None note_type = false
is_own (Some own) note_type = int_eq note_type own

-- the guid of a row that is a note of another type
abbrev pub guid_of_other : Option ℤ → Row → Option (List ℕ)
guid_of_other own (rows.Note note) = if is_own own note.mid then None else Some note.guid
guid_of_other own row = None

-- the guids of the notes of other types
abbrev pub guids_of_others : Option ℤ → Rows → List (List ℕ)
guids_of_others own held = filter_map (guid_of_other own) (rows_past tables.Note (pos 0) held)

-- whether a text is one of these
abbrev pub is_among : List ℕ → List (List ℕ) → Bool
is_among text texts = list_any (pointwise ◌==◌ text) texts

-- a record is tested by this number of fields, that of the type, and by whether a note of another type has its guid
pub record AreRulesFor (note_type : ℤ) (held : Rows) (fields : Option ℕ) (is_other : List ℕ → Bool) : Type 0 where
  pub counted : fields ≡ field_count note_type held
  pub others : (guid : List ℕ) → is_other guid ≡ is_among guid (guids_of_others (own_type note_type held) held)
