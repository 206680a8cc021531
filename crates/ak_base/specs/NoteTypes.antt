-- The ranges of a note type's columns.
use Rattle.std.specs.Prelude.{ℕ, ℤ, pos, negsuc, ◌-◌, ◌==◌, if◌then◌else◌, Option, Some, None, List, [], ◌∷◌, ◌++◌, length, ◌≡◌, Ok}
use Rattle.std.specs.Option.{option_or}
use Rattle.ak_base.specs.Columns.{id_fault, stamp_fault, code_fault, long_fault, first_fault}
use Rattle.ak_base.specs.Limits.{last_usn}
use Rattle.ak_base.specs.declared.errors.RowFault.{RowFault}
use Rattle.ak_base.specs.declared.errors.RowFault.TheVariants.{BadCode}
use Rattle.ak_base.specs.declared.note_types.FieldDef.{FieldDef}
use Rattle.ak_base.specs.declared.note_types.CardTemplate.{CardTemplate}
use Rattle.ak_base.specs.declared.note_types.NoteType.{NoteType}

-- a place among so many entries is 0 to their number minus 1, and 0 where there are none
unfoldable pub place_fault : ℕ → ℤ → ℕ → Option RowFault
place_fault column place entries = code_fault column place (pos 0) (pos (entries - 1))

-- a list of 1 to 100 entries
unfoldable pub entries_fault : ℕ → ℕ → Option RowFault
entries_fault column entries = if entries == 0 then Some (BadCode column (pos 0)) else long_fault column entries 100

-- the lengths of a field's texts
abbrev pub field_fault : FieldDef → Option RowFault
field_fault f = option_or (long_fault 6 (length f.name) 512) (long_fault 6 (length f.rest.text) 262_144)

-- the fault of the first field that has one
abbrev pub bad_field : List FieldDef → Option RowFault
bad_field [] = None
bad_field (f ∷ fs) = option_or (field_fault f) (bad_field fs)

-- the number of the fields, then each of them
abbrev pub fields_fault : List FieldDef → Option RowFault
fields_fault fs = option_or (entries_fault 6 (length fs)) (bad_field fs)

-- the lengths of a template's texts
abbrev pub template_fault : CardTemplate → Option RowFault
template_fault t =
    option_or (long_fault 7 (length t.name) 512)
    (option_or (long_fault 7 (length t.front) 65_536)
    (option_or (long_fault 7 (length t.back) 65_536)
    (long_fault 7 (length t.rest.text) 262_144)))

-- the fault of the first template that has one
abbrev pub bad_template : List CardTemplate → Option RowFault
bad_template [] = None
bad_template (t ∷ ts) = option_or (template_fault t) (bad_template ts)

-- the number of the templates, then each of them
abbrev pub templates_fault : List CardTemplate → Option RowFault
templates_fault ts = option_or (entries_fault 7 (length ts)) (bad_template ts)

-- what the type is called, and when it was changed
unfoldable pub title_faults : NoteType → List (Option RowFault)
title_faults n =
    id_fault n.id
    ∷ stamp_fault n.stamp
    ∷ code_fault 2 n.usn (negsuc 0) last_usn
    ∷ long_fault 3 (length n.name) 512
    ∷ []

-- what notes of the type have, and the rest
unfoldable pub form_faults : NoteType → List (Option RowFault)
form_faults n =
    place_fault 5 n.sortf (length n.fields)
    ∷ fields_fault n.fields
    ∷ templates_fault n.templates
    ∷ long_fault 8 (length n.rest.text) 262_144
    ∷ []

-- the fault of each column, in the order of the fields; a truth value has none
abbrev pub note_type_faults : NoteType → List (Option RowFault)
note_type_faults n = title_faults n ++ form_faults n

-- a note type passes its check: every column is in its range
abbrev pub IsCheckedNoteType : NoteType → Type 0
IsCheckedNoteType t = first_fault (note_type_faults t) ≡ Ok tt
