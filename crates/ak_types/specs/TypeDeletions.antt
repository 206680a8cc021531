-- Note types that are deleted.
use Rattle.std.specs.Prelude.{◌≡◌, ◌⊎◌, ℤ, Bool}
use Rattle.ak_base.specs.declared.names.Table.TheVariants as tables
use Rattle.ak_edit.specs.Ends.{RefusesStamp}
use Rattle.ak_edit.specs.Refusals.{IsEndFault, IsFromOutside, OrElse, Refusal}
use Rattle.ak_edit.specs.declared.desk_faults.DeskFault.{DeskFault}
use Rattle.ak_edit.specs.declared.desk_faults.DeskFault.TheVariants as faults
use Rattle.ak_edit_calls.specs.Calls.{RefusesAbsent, RefusesSchema}
use Rattle.ak_keep.specs.Collections.{Collection, Rows}
use Rattle.ak_merge.specs.EditBuilding.{unedited, with_schema, without_row}
use Rattle.ak_merge.specs.Edits.{Edit}
use Rattle.ak_merge.specs.Holdings.{name_in, row_under}
use Rattle.ak_types.specs.GivenTypes.{RefusesUsed}

-- the edit that deletes the type of this id: the schema changes
abbrev pub type_deletion : ℤ → Collection → Edit
type_deletion note_type c = without_row (name_in tables.NoteType note_type) (with_schema (unedited c))

-- the tests by which the type is kept: a note has it, or the schema may not change
abbrev pub RefusesKept : ℤ → Bool → Rows → Refusal
RefusesKept note_type allow held = OrElse (RefusesUsed note_type held) (RefusesSchema allow)

-- the tests of the call: the type is not held, it is kept, or the moment or that of the schema ends
abbrev pub RefusesDeletion : ℤ → ℤ → Bool → Collection → Refusal
RefusesDeletion at note_type allow c =
    OrElse (RefusesAbsent (row_under c) (name_in tables.NoteType note_type))
    (OrElse (RefusesKept note_type allow c.rows) (RefusesStamp at c (type_deletion note_type c)))

-- what these may answer
abbrev pub IsKeptFault : ℤ → DeskFault → Type 0
IsKeptFault note_type fault =
    IsFromOutside fault ⊎ (fault ≡ faults.InUse (name_in tables.NoteType note_type)) ⊎ (fault ≡ faults.SchemaAsk)

-- what it may answer
abbrev pub IsDeletionFault : ℤ → DeskFault → Type 0
IsDeletionFault note_type fault =
    (fault ≡ faults.NoSuch (name_in tables.NoteType note_type)) ⊎ IsKeptFault note_type fault ⊎ IsEndFault fault
