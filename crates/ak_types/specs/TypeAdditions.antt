-- Note types that are added.
use Rattle.std.specs.Prelude.{◌≡◌, ◌⊎◌, ℤ, pos}
use Rattle.ak_base.specs.declared.names.Table.TheVariants as tables
use Rattle.ak_base.specs.declared.note_types.NoteType.{NoteType}
use Rattle.ak_base.specs.declared.rows.Row.TheVariants as rows
use Rattle.ak_edit.specs.Refusals.{IsEndFault, OrElse, Refusal}
use Rattle.ak_edit.specs.declared.desk_faults.DeskFault.{DeskFault}
use Rattle.ak_edit.specs.declared.desk_faults.DeskFault.TheVariants as faults
use Rattle.ak_edit_calls.specs.Additions.{Addition, RefusesNewStamp}
use Rattle.ak_edit_calls.specs.NewNames.{RefusesId}
use Rattle.ak_edit_calls.specs.RowEdits.{row_edit}
use Rattle.ak_keep.specs.Collections.{Collection}
use Rattle.ak_merge.specs.Edits.{Edit}
use Rattle.ak_merge.specs.Holdings.{row_under}
use Rattle.ak_template.specs.declared.faults.TemplateFault.{TemplateFault}
use Rattle.ak_types.specs.GivenTypes.{RefusesGiven, RefusesSides, as_given, with_id}

-- ---- the rule
-- the edit that adds this type under this id
abbrev pub type_addition : NoteType → ℤ → Collection → Edit
type_addition note_type id = row_edit (rows.NoteType (with_id id note_type))

-- the same of a type that was given
abbrev pub given_addition : NoteType → ℤ → Collection → Edit
given_addition note_type = type_addition (as_given note_type)

-- ---- refusals
-- the tests of a type that has an id: a side of a template can't be read, or a stamp or the moment ends
abbrev pub RefusesNamed : ℤ → NoteType → Collection → Refusal
RefusesNamed at note_type c = OrElse (RefusesSides note_type) (RefusesNewStamp at tables.NoteType (type_addition note_type) c)

-- the tests of a type that is in its ranges: no id is free, or those of one that has an id
abbrev pub RefusesNewType : ℤ → NoteType → Collection → Refusal
RefusesNewType at note_type c =
    OrElse (RefusesId at tables.NoteType (row_under c)) (RefusesNamed at note_type c)

-- the tests of the call: the given type is out of its ranges, whatever its id is, or those of one that is in them
abbrev pub RefusesTypeAddition : ℤ → NoteType → Collection → Refusal
RefusesTypeAddition at note_type c =
    OrElse (RefusesGiven (with_id (pos 1) (as_given note_type))) (RefusesNewType at (as_given note_type) c)

-- ---- what is added
-- what is added of a type that is in its ranges, at this moment
abbrev pub new_type : ℤ → NoteType → Addition
new_type at note_type = record { at = at; table = tables.NoteType; rule = type_addition note_type; tests = RefusesNewType at note_type }

-- the same of a type that was given
abbrev pub given_type : ℤ → NoteType → Addition
given_type at note_type = record { at = at; table = tables.NoteType; rule = given_addition note_type; tests = RefusesTypeAddition at note_type }

-- ---- what it may answer
-- no id is free, a side of a template can't be read, or a fault of the end of an edit
abbrev pub IsAdditionFault : DeskFault → Type 0
IsAdditionFault fault =
    (fault ≡ faults.IdEnd) ⊎ ((side : TemplateFault) × (fault ≡ faults.Template side)) ⊎ IsEndFault fault
