-- A note type that is edited, with its notes and their cards.
use Rattle.std.specs.Prelude.{◌≡◌, ◌⊎◌, ⊤, ℤ, Bool, false, not, ◌&&◌, if◌then◌else◌, List, length, Some}
use Rattle.ak_base.specs.declared.cards.Card.{Card}
use Rattle.ak_base.specs.declared.heads.Conf.{Conf}
use Rattle.ak_base.specs.declared.heads.Head.{Head}
use Rattle.ak_base.specs.declared.names.Table.TheVariants as tables
use Rattle.ak_base.specs.declared.note_types.NoteType.{NoteType}
use Rattle.ak_base.specs.declared.rows.Row.TheVariants as rows
use Rattle.ak_edit.specs.Ends.{IsFinished, RefusesEnd}
use Rattle.ak_edit.specs.Overlays.{Overlay, conf_over, put_over, schema_over, unchanged}
use Rattle.ak_edit.specs.Refusals.{IsFromOutside, OrElse, Refusal}
use Rattle.ak_edit.specs.declared.desk_faults.DeskFault.{DeskFault}
use Rattle.ak_edit.specs.declared.desk_faults.DeskFault.TheVariants as faults
use Rattle.ak_edit_calls.specs.Calls.{RefusesSchema}
use Rattle.ak_keep.specs.Collections.{Collection, Rows}
use Rattle.ak_keep.specs.Keepers.{Keeping, WhereHeld}
use Rattle.ak_keep.specs.Lookups.{note_type_at}
use Rattle.ak_merge.specs.EditBuilding.{unedited, with_conf, with_row, with_rows_mapped, without_rows}
use Rattle.ak_merge.specs.Edits.{Edit}
use Rattle.ak_merge.specs.Holdings.{name_in}
use Rattle.ak_notes.specs.LackingNotes.{next_at}
use Rattle.ak_notes.specs.MadeNotes.{NeedsHeld, cards_over, with_cards}
use Rattle.ak_notes.specs.declared.lacking_notes.LackingNote.{LackingNote}
use Rattle.ak_notes.specs.declared.lacking_notes.NextCards.{NextCards}
use Rattle.ak_types.specs.GivenTypes.{IsGivenFault, IsSideFault, IsUsedFault, RefusesGiven, RefusesSides, RefusesUsed, as_given}
use Rattle.ak_types.specs.PlaceMaps.{IsMapFault, RefusesMap, keeps_all}
use Rattle.ak_types.specs.RetypedCards.{AreAllMissing, AreLackingIn, RefusesAllIds, notes_of}
use Rattle.ak_types.specs.RetypedRows.{is_dropped, notes_retyped, retyped}
use Rattle.ak_types.specs.declared.type_edits.TypeEdit.{TypeEdit}
use Rattle.ak_undo.specs.declared.steps.Step.{Step}

-- ---- the rule
-- whether both maps keep all of the old lists: then the schema stays
abbrev pub keeps_schema : TypeEdit → NoteType → Bool
keeps_schema given old =
    keeps_all (length old.fields) given.from_fields && keeps_all (length old.templates) given.from_templates

-- the edit changes the schema, if this is so
abbrev pub with_schema_if : Bool → Edit → Edit
with_schema_if changes edit = record edit { schema = changes }

-- the edit that puts the given type in place of the old one: its notes and their cards are as they are after it, the cards of
-- templates that went are gone, and these cards are new
abbrev pub retyping : TypeEdit → NoteType → List Card → Conf → Collection → Edit
retyping given old cards conf c =
    with_conf conf
    (with_cards cards
    (with_row (rows.NoteType (as_given given.note_type))
    (with_rows_mapped (retyped given old c.rows)
    (without_rows (is_dropped given old c.rows)
    (with_schema_if (not (keeps_schema given old)) (unedited c))))))

-- the cards that the notes of this old type get in a collection, and the settings after them
pub record IsRetypingOf (at : ℤ) (given : TypeEdit) (old : NoteType) (held : Rows) (head : Head) (cards : List Card) (conf : Conf) : Type 0 where
  pub lacking : List LackingNote
  pub lack : AreLackingIn given old held lacking
  pub end : NextCards
  pub missing : AreAllMissing held lacking (next_at at head.conf) cards end
  pub settings : conf ≡ end.conf

-- the same of the type that is held
pub record IsRetyping (at : ℤ) (given : TypeEdit) (c : Collection) (old : NoteType) (cards : List Card) (conf : Conf) : Type 0 where
  pub there : note_type_at c.rows given.note_type.id ≡ Some old
  pub is : IsRetypingOf at given old c.rows c.head cards conf

-- ---- refusals
-- a map has a bad place: places count the new fields first, and then the new templates
abbrev pub RefusesMaps : TypeEdit → NoteType → Refusal
RefusesMaps given old =
    OrElse (RefusesMap 0 (length old.fields) (length given.note_type.fields) given.from_fields)
    (RefusesMap (length given.note_type.fields) (length old.templates) (length given.note_type.templates)
    given.from_templates)

-- the cards of the given type are made in another way than those of the old one, and a note has the type
abbrev pub RefusesOtherKind : TypeEdit → NoteType → Rows → Refusal
RefusesOtherKind given old held fault =
    (given.note_type.cloze ≡ not old.cloze) × RefusesUsed given.note_type.id held fault

-- the schema may not change, and would
abbrev pub RefusesToChange : TypeEdit → NoteType → Refusal
RefusesToChange given old fault = (keeps_schema given old ≡ false) × RefusesSchema given.allow fault

-- there are too few ids for the cards that the notes lack
abbrev pub RefusesCards : ℤ → TypeEdit → NoteType → Collection → Refusal
RefusesCards at given old c fault =
    (lacking : List LackingNote) × AreLackingIn given old c.rows lacking
    × RefusesAllIds lacking (next_at at c.head.conf) c.rows fault

-- the tests of what is given: the type, and then its maps
abbrev pub RefusesForm : TypeEdit → NoteType → Refusal
RefusesForm given old = OrElse (RefusesGiven (as_given given.note_type)) (RefusesMaps given old)

-- the tests of what the edit asks for: the schema, and then the sides of the templates
abbrev pub RefusesAsked : TypeEdit → NoteType → Refusal
RefusesAsked given old = OrElse (RefusesToChange given old) (RefusesSides given.note_type)

-- the tests of an edit whose form is right: of the notes that have the type, and then of what the edit asks for
abbrev pub RefusesUse : TypeEdit → NoteType → Rows → Refusal
RefusesUse given old held = OrElse (RefusesOtherKind given old held) (RefusesAsked given old)

-- the tests with the old type before anything is made, but for that of ids
abbrev pub RefusesType : TypeEdit → NoteType → Rows → Refusal
RefusesType given old held = OrElse (RefusesForm given old) (RefusesUse given old held)

-- the tests with the old type before anything is made
abbrev pub RefusesForType : ℤ → TypeEdit → Collection → NoteType → Refusal
RefusesForType at given c old = OrElse (RefusesType given old c.rows) (RefusesCards at given old c)

-- the tests before anything is made: the type is held, and then those with it
abbrev pub RefusesToEdit : ℤ → TypeEdit → Collection → Refusal
RefusesToEdit at given c =
    NeedsHeld (note_type_at c.rows given.note_type.id) (name_in tables.NoteType given.note_type.id) (RefusesForType at given c)

-- a row that is made does not pass its check, or a stamp or the moment ends
abbrev pub RefusesRetyped : ℤ → TypeEdit → Collection → Refusal
RefusesRetyped at given c fault =
    (old : NoteType) × (cards : List Card) × (conf : Conf) × IsRetyping at given c old cards conf
    × RefusesEnd at c (retyping given old cards conf c) fault

-- all tests: the last are those of the rows that are made and of the stamps
abbrev pub RefusesTypeEdit : ℤ → TypeEdit → Collection → Refusal
RefusesTypeEdit at given c = OrElse (RefusesToEdit at given c) (RefusesRetyped at given c)

-- what the tests of what is given may answer
abbrev pub IsFormFault : DeskFault → Type 0
IsFormFault fault = (fault ≡ faults.Memory) ⊎ IsGivenFault fault ⊎ IsMapFault fault

-- what those of what the edit asks for may answer
abbrev pub IsAskedFault : DeskFault → Type 0
IsAskedFault fault = (fault ≡ faults.SchemaAsk) ⊎ IsSideFault fault

-- what all tests with the old type may answer, but for that of ids
abbrev pub IsTestFault : ℤ → DeskFault → Type 0
IsTestFault id fault = IsFromOutside fault ⊎ IsUsedFault id fault ⊎ IsFormFault fault ⊎ IsAskedFault fault

-- what the call may answer: this type is not held or is in use, or a fault of what is given or made
abbrev pub IsTypeEditFault : ℤ → DeskFault → Type 0
IsTypeEditFault id (faults.NoSuch name) = name ≡ name_in tables.NoteType id
IsTypeEditFault id (faults.FieldCount want got) = ⊥
IsTypeEditFault id (faults.DefaultKept name) = ⊥
IsTypeEditFault id faults.StampEnd = ⊤
IsTypeEditFault id faults.IdEnd = ⊤
IsTypeEditFault id (faults.Row fault) = ⊤
IsTypeEditFault id (faults.Template fault) = ⊤
IsTypeEditFault id (faults.NotAnswerable queue) = ⊥
IsTypeEditFault id faults.NothingToUndo = ⊥
IsTypeEditFault id faults.SchemaAsk = ⊤
IsTypeEditFault id (faults.InUse name) = name ≡ name_in tables.NoteType id
IsTypeEditFault id faults.Failed = ⊤
IsTypeEditFault id (faults.BadMap place) = ⊤
IsTypeEditFault id (faults.Page fault) = ⊥
IsTypeEditFault id faults.Memory = ⊤

-- ---- what it leaves
-- at this moment the type was edited
pub record IsTypeEdited (at : ℤ) (given : TypeEdit) (c : Collection) (before now : Keeping) (steps left : List Step) : Type 0 where
  pub old : NoteType
  pub cards : List Card
  pub conf : Conf
  pub is : IsRetyping at given c old cards conf
  pub done : IsFinished at c (retyping given old cards conf c) before now steps left

-- the same, where a collection is told
abbrev pub DoesEditType : ℤ → TypeEdit → Keeping → Keeping → List Step → List Step → Type 0
DoesEditType at given before now steps left = WhereHeld before (λ c. IsTypeEdited at given c before now steps left)

-- ---- the changes that are made for it
-- the schema changes, if this is so
abbrev pub schema_if_over : Bool → Overlay → Overlay
schema_if_over changes o = if changes then schema_over o else o

-- all that is made was put over the changes of the notes
abbrev pub made_over : TypeEdit → NoteType → List Card → Conf → Overlay → Overlay
made_over given old cards conf o =
    conf_over conf
    (cards_over cards
    (schema_if_over (not (keeps_schema given old)) (put_over (rows.NoteType (as_given given.note_type)) o)))

-- the changes of all notes of the type
abbrev pub all_retyped : TypeEdit → NoteType → Rows → Overlay
all_retyped given old held = notes_retyped given old held (notes_of given.note_type.id held) unchanged

-- these changes were made with this old type
pub record IsMadeOver (at : ℤ) (given : TypeEdit) (old : NoteType) (held : Rows) (head : Head) (o : Overlay) : Type 0 where
  pub cards : List Card
  pub conf : Conf
  pub is : IsRetypingOf at given old held head cards conf
  pub over : o ≡ made_over given old cards conf (all_retyped given old held)

-- the same with the type that is held
pub record IsEditOver (at : ℤ) (given : TypeEdit) (c : Collection) (o : Overlay) : Type 0 where
  pub old : NoteType
  pub there : note_type_at c.rows given.note_type.id ≡ Some old
  pub is : IsMadeOver at given old c.rows c.head o

-- the same in a collection
abbrev pub IsMadeIn : ℤ → TypeEdit → NoteType → Overlay → Collection → Type 0
IsMadeIn at given old o c = IsMadeOver at given old c.rows c.head o
