-- Note types that a call is given, and why it refuses them.
use Rattle.std.specs.Prelude.{◌≡◌, ◌⊎◌, ℤ, pos, negsuc, Bool, true, false, List, [], ◌∷◌, Option, Some, None, Err}
use Rattle.std.specs.List.{list_any}
use Rattle.std.specs.Option.{option_or}
use Rattle.std.specs.Ordering.{int_eq}
use Rattle.ak_base.specs.Rows.{check_of}
use Rattle.ak_base.specs.declared.errors.RowFault.{RowFault}
use Rattle.ak_base.specs.declared.names.Table.TheVariants as tables
use Rattle.ak_base.specs.declared.note_types.CardTemplate.{CardTemplate}
use Rattle.ak_base.specs.declared.note_types.NoteType.{NoteType}
use Rattle.ak_base.specs.declared.rows.Row.{Row}
use Rattle.ak_base.specs.declared.rows.Row.TheVariants as rows
use Rattle.ak_edit.specs.Refusals.{Refusal}
use Rattle.ak_edit.specs.declared.desk_faults.DeskFault.{DeskFault}
use Rattle.ak_edit.specs.declared.desk_faults.DeskFault.TheVariants as faults
use Rattle.ak_keep.specs.Collections.{Rows, rows_past}
use Rattle.ak_merge.specs.Holdings.{name_in}
use Rattle.ak_template.specs.Grammar.{first_fault}
use Rattle.ak_template.specs.declared.faults.TemplateFault.{TemplateFault}

-- ---- the type
-- a type as a call takes it: its stamp and its usn are not looked at, since the edit gives it others
abbrev pub as_given : NoteType → NoteType
as_given note_type = record note_type { stamp = pos 0; usn = negsuc 0 }

-- a type with this id
abbrev pub with_id : ℤ → NoteType → NoteType
with_id id note_type = record note_type { id = id }

-- a type that was given is out of its ranges: its first fault
abbrev pub RefusesGiven : NoteType → Refusal
RefusesGiven note_type fault =
    (given : RowFault) × (check_of (rows.NoteType note_type) ≡ Err given) × (fault ≡ faults.Row given)

-- ---- its templates
-- the first fault of one template: its front comes before its back
abbrev pub one_fault : CardTemplate → Option TemplateFault
one_fault template = option_or (first_fault template.front) (first_fault template.back)

-- the first fault of the templates, in their order
abbrev pub sides_fault : List CardTemplate → Option TemplateFault
sides_fault [] = None
sides_fault (template ∷ templates) = option_or (one_fault template) (sides_fault templates)

-- a side of a template can't be read
abbrev pub RefusesSides : NoteType → Refusal
RefusesSides note_type fault =
    (side : TemplateFault) × (sides_fault note_type.templates ≡ Some side) × (fault ≡ faults.Template side)

-- ---- its notes
-- whether a row is a note of the type of this id
abbrev pub is_note_of : ℤ → Row → Bool
is_note_of note_type (rows.Note note) = int_eq note.mid note_type
is_note_of note_type (rows.Card card) = false
is_note_of note_type (rows.Review review) = false
is_note_of note_type (rows.NoteType other) = false
is_note_of note_type (rows.Deck deck) = false
is_note_of note_type (rows.Options options) = false
is_note_of note_type (rows.Grave grave) = false

-- whether a note of the type is held: an id is at least 1
abbrev pub has_notes : ℤ → Rows → Bool
has_notes note_type held = list_any (is_note_of note_type) (rows_past tables.Note (pos 0) held)

-- a note has the type
abbrev pub RefusesUsed : ℤ → Rows → Refusal
RefusesUsed note_type held fault =
    (has_notes note_type held ≡ true) × (fault ≡ faults.InUse (name_in tables.NoteType note_type))

-- ---- what the tests of a given type may answer
-- that it is out of its ranges
abbrev pub IsGivenFault : DeskFault → Type 0
IsGivenFault fault = (given : RowFault) × (fault ≡ faults.Row given)

-- that a side can't be read, or that memory is out
abbrev pub IsSideFault : DeskFault → Type 0
IsSideFault fault = ((side : TemplateFault) × (fault ≡ faults.Template side)) ⊎ (fault ≡ faults.Memory)

-- that it is in use
abbrev pub IsUsedFault : ℤ → DeskFault → Type 0
IsUsedFault note_type fault = fault ≡ faults.InUse (name_in tables.NoteType note_type)
