-- What becomes of the notes and the cards of a type that is edited.
use Rattle.std.specs.Prelude.{ℕ, ℤ, Bool, false, ◌&&◌, is_none, if◌then◌else◌, List, [], ◌∷◌, length, map, Option, Some, None}
use Rattle.std.specs.List.{flat_map, slice_index_or}
use Rattle.std.specs.Option.{option_map_or, unwrap_or}
use Rattle.std.specs.Ordering.{int_eq}
use Rattle.ak_base.specs.NoteTexts.{fields_in}
use Rattle.ak_base.specs.RowsOfOneKind.{on_card, on_note}
use Rattle.ak_base.specs.declared.cards.Card.{Card}
use Rattle.ak_base.specs.declared.note_types.NoteType.{NoteType}
use Rattle.ak_base.specs.declared.notes.Note.{Note}
use Rattle.ak_base.specs.declared.rows.Row.{Row}
use Rattle.ak_base.specs.declared.rows.Row.TheVariants as rows
use Rattle.ak_edit.specs.Overlays.{Overlay, put_over}
use Rattle.ak_keep.specs.Collections.{Rows, cards_of}
use Rattle.ak_keep.specs.Lookups.{card_at, note_at}
use Rattle.ak_notes.specs.Deletions.{without_cards}
use Rattle.ak_notes.specs.MadeNotes.{cards_over}
use Rattle.ak_notes.specs.NoteRows.{with_fields}
use Rattle.ak_types.specs.PlaceMaps.{moved_ord}
use Rattle.ak_types.specs.declared.type_edits.TypeEdit.{TypeEdit}

-- ---- a note
-- the text of a new field: that of the old one that it is, an empty one if it is new or if the note has no such field
abbrev pub moved_field : List (List ℕ) → Option ℕ → List ℕ
moved_field fields None = []
moved_field fields (Some from) = slice_index_or fields from []

-- the fields of a note after the edit
abbrev pub moved_fields : TypeEdit → Note → List (List ℕ)
moved_fields given note = map (moved_field (fields_in note.flds)) given.from_fields

-- the note after the edit: what it is sorted by and its checksum are those of its new fields and the new type
abbrev pub retyped_note : TypeEdit → Note → Note
retyped_note given note = with_fields given.note_type (moved_fields given note) note

-- ---- a card
-- the ord of a card after the edit of a type, none if its template went. The ords of a cloze type are no templates, and stay
abbrev pub ord_after : TypeEdit → NoteType → ℤ → Option ℤ
ord_after given old ord =
    if given.note_type.cloze then Some ord else moved_ord (length old.templates) given.from_templates ord

-- the card with this ord
abbrev pub with_ord : Card → ℤ → Card
with_ord card ord = record card { ord = ord }

-- the card after the edit, if it stays
abbrev pub kept_with : Card → Option ℤ → List Card
kept_with card None = []
kept_with card (Some ord) = with_ord card ord ∷ []

-- the same of a card, if it is held
abbrev pub kept_card : TypeEdit → NoteType → Option Card → List Card
kept_card given old None = []
kept_card given old (Some card) = kept_with card (ord_after given old card.ord)

-- the cards of these ids that stay, as they are after the edit
abbrev pub kept_cards : TypeEdit → NoteType → Rows → List ℤ → List Card
kept_cards given old held ids = flat_map (λ (id : ℤ). kept_card given old (card_at held id)) ids

-- ---- every row
-- whether the note of this id is held, and has the type of this id
abbrev pub has_type : ℤ → Rows → ℤ → Bool
has_type note_type held note = option_map_or (λ (note : Note). int_eq note.mid note_type) (note_at held note) false

-- the row after the edit, if it stays: the notes of the type have their fields by the map, and the cards of these notes their ords
abbrev pub retyped : TypeEdit → NoteType → Rows → Row → Row
retyped given old held row =
    on_note (λ (note : Note). if int_eq note.mid given.note_type.id then retyped_note given note else note)
    (on_card (λ (card : Card). if has_type given.note_type.id held card.nid then with_ord card (unwrap_or (ord_after given old card.ord) card.ord) else card) row)

-- whether a row goes: it is a card of a note of the type, and its template went
abbrev pub is_dropped : TypeEdit → NoteType → Rows → Row → Bool
is_dropped given old held (rows.Card card) =
    has_type given.note_type.id held card.nid && is_none (ord_after given old card.ord)
is_dropped given old held (rows.Note note) = false
is_dropped given old held (rows.Review review) = false
is_dropped given old held (rows.NoteType note_type) = false
is_dropped given old held (rows.Deck deck) = false
is_dropped given old held (rows.Options options) = false
is_dropped given old held (rows.Grave grave) = false

-- ---- the changes that are made for it
-- the cards of these ids were removed, and those that stay put again
abbrev pub cards_retyped : TypeEdit → NoteType → Rows → List ℤ → Overlay → Overlay
cards_retyped given old held ids o = cards_over (kept_cards given old held ids) (without_cards ids o)

-- the note was put as it is after the edit, and so were its cards
abbrev pub note_retyped : TypeEdit → NoteType → Rows → Note → Overlay → Overlay
note_retyped given old held note o =
    cards_retyped given old held (cards_of note.id held) (put_over (rows.Note (retyped_note given note)) o)

-- the same of each of the notes
abbrev pub notes_retyped : TypeEdit → NoteType → Rows → List Note → Overlay → Overlay
notes_retyped given old held [] o = o
notes_retyped given old held (note ∷ notes) o = notes_retyped given old held notes (note_retyped given old held note o)
