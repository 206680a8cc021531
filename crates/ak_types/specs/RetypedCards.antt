-- The cards that the notes of a type lack after an edit of the type, and get.
use Rattle.std.specs.Prelude.{◌≡◌, ℕ, ◌+◌, ℤ, pos, true, if◌then◌else◌, List, [], ◌∷◌, ◌++◌, length, map}
use Rattle.std.specs.FinMap.{get}
use Rattle.std.specs.List.{flat_map}
use Rattle.std.specs.Ordering.{int_eq}
use Rattle.ak_base.specs.declared.cards.Card.{Card}
use Rattle.ak_base.specs.declared.names.Table.TheVariants as tables
use Rattle.ak_base.specs.declared.note_types.NoteType.{NoteType}
use Rattle.ak_base.specs.declared.notes.Note.{Note}
use Rattle.ak_base.specs.declared.rows.Row.{Row}
use Rattle.ak_base.specs.declared.rows.Row.TheVariants as rows
use Rattle.ak_keep.specs.FreeNames.{is_used}
use Rattle.ak_cardgen.specs.Generation.{AreOrds}
use Rattle.ak_edit.specs.Overlays.{unchanged}
use Rattle.ak_edit.specs.Refusals.{Refusal}
use Rattle.ak_edit.specs.declared.desk_faults.DeskFault.TheVariants as faults
use Rattle.ak_keep.specs.Collections.{Rows, cards_of, rows_past}
use Rattle.ak_keep.specs.Keepers.{WhereTold}
use Rattle.ak_keep.specs.declared.readables.Lookup.{Ghosts}
use Rattle.ak_notes.specs.LackingNotes.{AreMissing, lacked_ords, next_after}
use Rattle.ak_edit_calls.specs.NewNames.{LacksIds}
use Rattle.ak_notes.specs.declared.lacking_notes.HeldCards.{HeldCards}
use Rattle.ak_notes.specs.declared.lacking_notes.LackingNote.{LackingNote}
use Rattle.ak_notes.specs.declared.lacking_notes.MissingCards.{MissingCards}
use Rattle.ak_notes.specs.declared.lacking_notes.NextCards.{NextCards}
use Rattle.ak_types.specs.RetypedRows.{kept_cards, moved_fields, notes_retyped}
use Rattle.ak_types.specs.declared.retyped_notes.Retyped.{Retyped}
use Rattle.ak_types.specs.declared.type_edits.TypeEdit.{TypeEdit}

-- ---- the notes of the type
-- the row, if it is a note of the type of this id
abbrev pub note_of : ℤ → Row → List Note
note_of note_type (rows.Note note) = if int_eq note.mid note_type then note ∷ [] else []
note_of note_type (rows.Card card) = []
note_of note_type (rows.Review review) = []
note_of note_type (rows.NoteType other) = []
note_of note_type (rows.Deck deck) = []
note_of note_type (rows.Options options) = []
note_of note_type (rows.Grave grave) = []

-- the notes of the type that are held, by ascending id: an id is at least 1
abbrev pub notes_of : ℤ → Rows → List Note
notes_of note_type held = flat_map (note_of note_type) (rows_past tables.Note (pos 0) held)

-- ---- the cards that each of them lacks
-- the deck of the first card, and deck 1 if there is none
abbrev pub deck_of : List Card → ℤ
deck_of [] = pos 1
deck_of (card ∷ cards) = card.did

-- these are the cards of a note, by ascending id, as a new card looks at them: their ords, and the deck of the one of the least id
abbrev pub seen_cards : List Card → HeldCards
seen_cards cards = record { ords = map (λ (card : Card). card.ord) cards; deck = deck_of cards }

-- what a note of this id lacks that is of this type and has these fields and cards: it is to have a card
pub record IsLackingWith (note_type : NoteType) (fields : List (List ℕ)) (id : ℤ) (cards : List Card) (lacking : LackingNote) : Type 0 where
  pub note : lacking.note ≡ id
  pub held : lacking.held ≡ seen_cards cards
  pub shown : AreOrds note_type fields lacking.shown
  pub needs : lacking.needs_card ≡ true

-- what the note lacks after the edit, with its new fields and with those of its cards that stay
abbrev pub IsLacking : TypeEdit → NoteType → Rows → Note → LackingNote → Type 0
IsLacking given old held note =
    IsLackingWith given.note_type (moved_fields given note) note.id (kept_cards given old held (cards_of note.id held))

-- the same of each of the notes, in their order
abbrev pub AreLacking : TypeEdit → NoteType → Rows → List Note → List LackingNote → Type 0
AreLacking given old held [] lacking = lacking ≡ []
AreLacking given old held (note ∷ notes) lacking =
    (first : LackingNote) × (others : List LackingNote) × (lacking ≡ first ∷ others)
    × IsLacking given old held note first × AreLacking given old held notes others

-- the same of all notes of the type that are held
abbrev pub AreLackingIn : TypeEdit → NoteType → Rows → List LackingNote → Type 0
AreLackingIn given old held = AreLacking given old held (notes_of given.note_type.id held)

-- ---- the cards that they get
-- these cards are made for the notes, one after the other: those of a note come at one place among the new cards, and those of
-- the next note that gets any at the next place; ids ascend. Then the next cards would go on from `end`
abbrev pub AreAllMissing : Rows → List LackingNote → NextCards → List Card → NextCards → Type 0
AreAllMissing held [] next cards end = (cards ≡ []) × (end ≡ next)
AreAllMissing held (lacking ∷ others) next cards end =
    (own : List Card) × (rest : List Card) × (cards ≡ own ++ rest)
    × AreMissing lacking next held own × AreAllMissing held others (next_after own next) rest end

-- how many cards they lack
abbrev pub missing_count : List LackingNote → ℕ
missing_count [] = 0
missing_count (lacking ∷ others) = length (lacked_ords lacking) + missing_count others

-- there are too few free ids for these cards
abbrev pub RefusesAllIds : List LackingNote → NextCards → Rows → Refusal
RefusesAllIds lacking next held fault =
    LacksIds (is_used (get held)) next.first (missing_count lacking) × (fault ≡ faults.IdEnd)

-- ---- what is done note by note
-- after the cards so far, those that this note lacks were made too
pub record IsNextMissing (held : Rows) (note : LackingNote) (before after : MissingCards) : Type 0 where
  pub own : List Card
  pub made : AreMissing note before.next held own
  pub cards : after.cards ≡ before.cards ++ own
  pub next : after.next ≡ next_after own before.next

-- the changes of these notes were made, and what each of them lacks was noted
pub record RetypesNotes (given : TypeEdit) (old : NoteType) (held : Rows) (notes : List Note) (before after : Retyped) : Type 0 where
  pub over : after.change ≡ notes_retyped given old held notes before.change
  pub new : List LackingNote
  pub lacking : after.lacking ≡ before.lacking ++ new
  pub lack : AreLacking given old held notes new

-- the same of a keeper as it was
abbrev pub RetypesBy : {Self : Type 0} → Ghosts Self → Self → TypeEdit → NoteType → List Note → Retyped → Retyped → Type 0
RetypesBy K was given old notes before after = WhereTold (K.keeping was) (λ h. RetypesNotes given old h.rows notes before after)

-- the same of all notes of the type that it holds
abbrev pub RetypesHeld : {Self : Type 0} → Ghosts Self → Self → TypeEdit → NoteType → Retyped → Retyped → Type 0
RetypesHeld K was given old before after =
    WhereTold (K.keeping was) (λ h. RetypesNotes given old h.rows (notes_of given.note_type.id h.rows) before after)

-- the changes of all notes of the type, and what each of them lacks
pub record IsRetypedBy (given : TypeEdit) (old : NoteType) (held : Rows) (made : Retyped) : Type 0 where
  pub over : made.change ≡ notes_retyped given old held (notes_of given.note_type.id held) unchanged
  pub lack : AreLackingIn given old held made.lacking
