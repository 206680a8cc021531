-- A note whose fields and tags are changed.
use Rattle.std.specs.Prelude.{◌≡◌, ◌⊎◌, ℤ, false, List, Some, IfSome}
use Rattle.ak_base.specs.declared.heads.Head.{Head}
use Rattle.ak_base.specs.declared.names.Name.{Name}
use Rattle.ak_base.specs.declared.names.Table.TheVariants as tables
use Rattle.ak_base.specs.declared.note_types.NoteType.{NoteType}
use Rattle.ak_base.specs.declared.notes.Note.{Note}
use Rattle.ak_cardgen.specs.Generation.{AreOrds}
use Rattle.ak_edit.specs.Ends.{IsFinished}
use Rattle.ak_edit.specs.Refusals.{OrElse, Refusal}
use Rattle.ak_edit.specs.declared.desk_faults.DeskFault.{DeskFault}
use Rattle.ak_edit.specs.declared.desk_faults.DeskFault.TheVariants as faults
use Rattle.ak_edit_calls.specs.Calls.{IsMissingFault}
use Rattle.ak_keep.specs.Collections.{Collection, Holding, Rows}
use Rattle.ak_keep.specs.Keepers.{Keeping, WhereHeld}
use Rattle.ak_keep.specs.Lookups.{note_at, type_of_note}
use Rattle.ak_keep.specs.declared.readables.Lookup.{Ghosts}
use Rattle.ak_merge.specs.Holdings.{name_in}
use Rattle.ak_notes.specs.GivenTexts.{RefusesGiven}
use Rattle.ak_notes.specs.LackingNotes.{AreMissing, cards_held, lacked_ords, next_at}
use Rattle.ak_notes.specs.MadeNotes.{IsMakingFault, NeedsHeld, RefusesMade, made_edit}
use Rattle.ak_notes.specs.NewCards.{RefusesCardIds, RefusesFronts, RefusesIds, conf_after}
use Rattle.ak_notes.specs.NoteRows.{with_texts}
use Rattle.ak_notes.specs.declared.lacking_notes.LackingNote.{LackingNote}
use Rattle.ak_notes.specs.declared.made_notes.MadeNote.{MadeNote}
use Rattle.ak_notes.specs.declared.note_edits.NoteEdit.{NoteEdit}
use Rattle.ak_undo.specs.declared.steps.Step.{Step}

-- ---- the rule
-- the name of a note's type
abbrev pub type_name : Note → Name
type_name note = name_in tables.NoteType note.mid

-- the note of this id with the cards that are held of it, which shows these ords: it may stay without a card
abbrev pub lacking_note : ℤ → List ℤ → Rows → LackingNote
lacking_note note shown held = record { note = note; held = cards_held held note; shown = shown; needs_card = false }

-- what is made of this note, which is of this type, and of the cards that it lacks
pub record IsChangedNote (at : ℤ) (note : Note) (note_type : NoteType) (given : NoteEdit) (held : Rows) (head : Head) (made : MadeNote) : Type 0 where
  pub texts : made.note ≡ with_texts note_type given.fields given.tags note
  -- the ords that its fields show, and a card for each of them that it lacks
  pub shown : List ℤ
  pub told : AreOrds note_type given.fields shown
  pub cards : AreMissing (lacking_note given.note shown held) (next_at at head.conf) held made.cards
  pub conf : made.conf ≡ conf_after made.cards head.conf

-- the same for the type that is held
pub record IsChangedHeld (at : ℤ) (note : Note) (given : NoteEdit) (held : Rows) (head : Head) (made : MadeNote) : Type 0 where
  pub note_type : NoteType
  pub typed : type_of_note held note ≡ Some note_type
  pub is : IsChangedNote at note note_type given held head made

-- the same of the note that is held
pub record IsNoteEdit (at : ℤ) (given : NoteEdit) (held : Rows) (head : Head) (made : MadeNote) : Type 0 where
  pub note : Note
  pub there : note_at held given.note ≡ Some note
  pub is : IsChangedHeld at note given held head made

-- ---- what the parts of the call make, of what is held
-- for this type, if these ords are shown
abbrev pub IsChangedWith : ℤ → Note → NoteType → NoteEdit → List ℤ → MadeNote → Holding → Type 0
IsChangedWith at note note_type given shown made h =
    IfSome h.head (λ head. AreMissing (lacking_note given.note shown h.rows) (next_at at head.conf) h.rows made.cards
    × (made.note ≡ with_texts note_type given.fields given.tags note) × (made.conf ≡ conf_after made.cards head.conf))

-- for this type
abbrev pub IsChangedTo : ℤ → Note → NoteType → NoteEdit → MadeNote → Holding → Type 0
IsChangedTo at note note_type given made h =
    IfSome h.head (λ head. IsChangedNote at note note_type given h.rows head made)

-- for the type of the note that is held
abbrev pub IsChangedFor : ℤ → Note → NoteEdit → MadeNote → Holding → Type 0
IsChangedFor at note given made h = IfSome h.head (λ head. IsChangedHeld at note given h.rows head made)

-- for the note that is held, and its type
abbrev pub IsChangedOf : ℤ → NoteEdit → MadeNote → Holding → Type 0
IsChangedOf at given made h = IfSome h.head (λ head. IsNoteEdit at given h.rows head made)

-- ---- refusals
-- there are too few ids for the cards that the note lacks of those that it shows
abbrev pub RefusesLacked : ℤ → NoteEdit → List ℤ → Rows → Refusal
RefusesLacked at given shown held = RefusesIds at (lacked_ords (lacking_note given.note shown held)) held

-- the tests of the cards that the note lacks: the fronts, and then their ids
abbrev pub RefusesCards : ℤ → NoteEdit → NoteType → Rows → Refusal
RefusesCards at given note_type held =
    OrElse (RefusesFronts note_type)
    (RefusesCardIds at (λ shown. lacked_ords (lacking_note given.note shown held)) note_type given.fields held)

-- the tests for this type: fields and tags come first
abbrev pub RefusesForType : ℤ → NoteEdit → NoteType → Rows → Refusal
RefusesForType at given note_type held =
    OrElse (RefusesGiven note_type given.fields given.tags) (RefusesCards at given note_type held)

-- the type of the note is held, and then the tests for it
abbrev pub RefusesForNote : ℤ → NoteEdit → Note → Rows → Refusal
RefusesForNote at given note held =
    NeedsHeld (type_of_note held note) (type_name note) (λ note_type. RefusesForType at given note_type held)

-- the tests before anything is made: the note is held, and then those for it
abbrev pub RefusesToEdit : ℤ → NoteEdit → Rows → Refusal
RefusesToEdit at given held =
    NeedsHeld (note_at held given.note) (name_in tables.Note given.note) (λ note. RefusesForNote at given note held)

-- all tests: the last are those of the rows that are made and of the stamps
abbrev pub RefusesNoteEdit : ℤ → NoteEdit → Collection → Refusal
RefusesNoteEdit at given c =
    OrElse (RefusesToEdit at given c.rows) (RefusesMade at given.tags c (IsNoteEdit at given c.rows c.head))

-- what it may answer: the note or its type is not held, or a fault of what is made
abbrev pub IsNoteEditFault : NoteEdit → DeskFault → Type 0
IsNoteEditFault given fault =
    (fault ≡ faults.NoSuch (name_in tables.Note given.note))
    ⊎ IsMissingFault tables.NoteType fault ⊎ IsMakingFault fault

-- ---- what it leaves
-- at this moment the note was edited
pub record IsNoteEdited (at : ℤ) (given : NoteEdit) (c : Collection) (before now : Keeping) (steps left : List Step) : Type 0 where
  pub made : MadeNote
  pub is : IsNoteEdit at given c.rows c.head made
  pub done : IsFinished at c (made_edit given.tags made c) before now steps left

-- the same, where a collection is told
abbrev pub DoesEditNote : ℤ → NoteEdit → Keeping → Keeping → List Step → List Step → Type 0
DoesEditNote at given before now steps left = WhereHeld before (λ c. IsNoteEdited at given c before now steps left)

-- the same of a keeper as it was and as it is
abbrev pub EditsNote : {Self : Type 0} → Ghosts Self → Self → Self → List Step → List Step → ℤ → NoteEdit → Type 0
EditsNote K was now steps left at given = DoesEditNote at given (K.keeping was) (K.keeping now) steps left
