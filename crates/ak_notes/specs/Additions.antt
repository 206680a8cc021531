-- A note that is added, with its cards.
use Rattle.std.specs.Prelude.{◌≡◌, ◌⊎◌, ℤ, List, map, IfSome, Some}
use Rattle.std.specs.FinMap.{get}
use Rattle.std.specs.Option.{unwrap_or}
use Rattle.ak_base.specs.declared.cards.Card.{Card}
use Rattle.ak_base.specs.declared.heads.Head.{Head}
use Rattle.ak_base.specs.declared.names.Name.{Name}
use Rattle.ak_base.specs.declared.names.Table.TheVariants as tables
use Rattle.ak_base.specs.declared.note_types.NoteType.{NoteType}
use Rattle.ak_base.specs.declared.notes.Note.{Note}
use Rattle.ak_keep.specs.FreeNames.{is_used}
use Rattle.ak_edit_calls.specs.NewNames.{IsNewName, RefusesId, first_name}
use Rattle.ak_edit.specs.Ends.{IsFinished}
use Rattle.ak_edit.specs.Refusals.{OrElse, Refusal}
use Rattle.ak_edit.specs.declared.desk_faults.DeskFault.{DeskFault}
use Rattle.ak_edit.specs.declared.desk_faults.DeskFault.TheVariants as faults
use Rattle.ak_keep.specs.Collections.{Collection, Holding, Rows}
use Rattle.ak_keep.specs.Keepers.{Keeping, WhereHeld}
use Rattle.ak_keep.specs.Lookups.{deck_at, note_type_at}
use Rattle.ak_merge.specs.Holdings.{name_in}
use Rattle.ak_notes.specs.GivenTexts.{RefusesGiven}
use Rattle.ak_notes.specs.MadeNotes.{IsMakingFault, NeedsHeld, RefusesMade, made_edit}
use Rattle.ak_notes.specs.NewCards.{AreCardsOf, AreNewCards, RefusesCardIds, RefusesFronts, at_least_one, conf_after}
use Rattle.ak_notes.specs.NoteRows.{blank_note, made_guid, with_texts}
use Rattle.ak_notes.specs.declared.additions.Added.{Added}
use Rattle.ak_notes.specs.declared.additions.NewNote.{NewNote}
use Rattle.ak_notes.specs.declared.new_cards.CardPlace.{CardPlace}
use Rattle.ak_notes.specs.declared.made_notes.MadeNote.{MadeNote}
use Rattle.ak_undo.specs.declared.steps.Step.{Step}

-- ---- the rule
-- the row of a new note of this id
abbrev pub added_row : NoteType → NewNote → ℤ → Note
added_row note_type new id =
    with_texts note_type new.fields new.tags (blank_note id new.note_type (unwrap_or new.guid (made_guid id new.chance)))

-- the place of the cards of a new note of this id
abbrev pub added_place : NewNote → Head → ℤ → CardPlace
added_place new head id = record { note = id; deck = new.deck; due = head.conf.next_pos }

-- what is made of the note under this name and of its cards, for this type: the cards come into the deck at the next place
pub record IsAddedUnder (at : ℤ) (note_type : NoteType) (new : NewNote) (name : Name) (held : Rows) (head : Head) (made : MadeNote) : Type 0 where
  pub note : made.note ≡ added_row note_type new name.id
  pub cards : AreCardsOf at at_least_one (added_place new head name.id) note_type new.fields held made.cards
  pub conf : made.conf ≡ conf_after made.cards head.conf

-- the same under the first name that is free from the moment on
pub record IsAddedFor (at : ℤ) (note_type : NoteType) (new : NewNote) (held : Rows) (head : Head) (made : MadeNote) : Type 0 where
  pub name : Name
  pub free : IsNewName at tables.Note (get held) name
  pub under : IsAddedUnder at note_type new name held head made

-- the same for the type that is held
pub record IsAddition (at : ℤ) (new : NewNote) (held : Rows) (head : Head) (made : MadeNote) : Type 0 where
  pub note_type : NoteType
  pub typed : note_type_at held new.note_type ≡ Some note_type
  pub is : IsAddedFor at note_type new held head made

-- ---- the same of what is held
-- whose cards have these ords
abbrev pub IsMadeWith : ℤ → NoteType → NewNote → Name → List ℤ → MadeNote → Holding → Type 0
IsMadeWith at note_type new name ords made h =
    IfSome h.head (λ head. AreNewCards (is_used (get h.rows)) (added_place new head name.id) (first_name tables.Card at) (at_least_one ords) made.cards
    × (made.note ≡ added_row note_type new name.id) × (made.conf ≡ conf_after made.cards head.conf))

-- under this name
abbrev pub IsMadeUnder : ℤ → NoteType → NewNote → Name → MadeNote → Holding → Type 0
IsMadeUnder at note_type new name made h = IfSome h.head (λ head. IsAddedUnder at note_type new name h.rows head made)

-- for this type
abbrev pub IsMadeFor : ℤ → NoteType → NewNote → MadeNote → Holding → Type 0
IsMadeFor at note_type new made h = IfSome h.head (λ head. IsAddedFor at note_type new h.rows head made)

-- for the type that is held
abbrev pub IsMadeOf : ℤ → NewNote → MadeNote → Holding → Type 0
IsMadeOf at new made h = IfSome h.head (λ head. IsAddition at new h.rows head made)

-- ---- refusals
-- the tests of the cards: the fronts, and then their ids
abbrev pub RefusesShown : ℤ → NewNote → NoteType → Rows → Refusal
RefusesShown at new note_type held =
    OrElse (RefusesFronts note_type) (RefusesCardIds at at_least_one note_type new.fields held)

-- the tests of what is made for this type: the note's id comes first
abbrev pub RefusesMaking : ℤ → NewNote → NoteType → Rows → Refusal
RefusesMaking at new note_type held = OrElse (RefusesId at tables.Note (get held)) (RefusesShown at new note_type held)

-- the tests for this type: fields and tags come first
abbrev pub RefusesOfType : ℤ → NewNote → NoteType → Rows → Refusal
RefusesOfType at new note_type held =
    OrElse (RefusesGiven note_type new.fields new.tags) (RefusesMaking at new note_type held)

-- the deck is held, and then the tests for this type
abbrev pub RefusesForDeck : ℤ → NewNote → NoteType → Rows → Refusal
RefusesForDeck at new note_type held =
    NeedsHeld (deck_at held new.deck) (name_in tables.Deck new.deck) (λ _. RefusesOfType at new note_type held)

-- the tests before anything is made: the type is held, and then those for the deck
abbrev pub RefusesToAdd : ℤ → NewNote → Rows → Refusal
RefusesToAdd at new held =
    NeedsHeld (note_type_at held new.note_type) (name_in tables.NoteType new.note_type) (λ note_type. RefusesForDeck at new note_type held)

-- all tests: the last are those of the rows that are made and of the stamps
abbrev pub RefusesAddition : ℤ → NewNote → Collection → Refusal
RefusesAddition at new c = OrElse (RefusesToAdd at new c.rows) (RefusesMade at new.tags c (IsAddition at new c.rows c.head))

-- what it may answer: the type or the deck is not held, or a fault of what is made
abbrev pub IsAddFault : NewNote → DeskFault → Type 0
IsAddFault new fault =
    (fault ≡ faults.NoSuch (name_in tables.NoteType new.note_type)) ⊎ (fault ≡ faults.NoSuch (name_in tables.Deck new.deck)) ⊎ IsMakingFault fault

-- ---- what it leaves
-- at this moment the note was added, and these are the ids of the note and of its cards
pub record IsAdded (at : ℤ) (new : NewNote) (c : Collection) (before now : Keeping) (steps left : List Step) (added : Added) : Type 0 where
  pub made : MadeNote
  pub is : IsAddition at new c.rows c.head made
  pub note : added.note ≡ made.note.id
  pub cards : added.cards ≡ map (λ (card : Card). card.id) made.cards
  pub done : IsFinished at c (made_edit new.tags made c) before now steps left

-- the same, where a collection is told
abbrev pub DoesAdd : ℤ → NewNote → Keeping → Keeping → List Step → List Step → Added → Type 0
DoesAdd at new before now steps left added = WhereHeld before (λ c. IsAdded at new c before now steps left added)
