-- Whether a collection is sound: what Anki's basic check asks, and the first fault.
use Rattle.ak_keep.specs.Graves.{RowsByName}
use Rattle.ak_merge.specs.Holdings.{name_in}
use Rattle.std.specs.Prelude.{◌≡◌, ◌≢◌, ◌==◌, ℕ, ℤ, pos, Bool, true, false, not, ◌&&◌, ◌||◌, ◌<ℤ◌, ◌≤ℤ◌, int_lt, nat_lt, is_some, List, [], ◌∷◌, find, length, Option, Some, None}
use Rattle.std.specs.FinMap.{get}
use Rattle.std.specs.Option.{option_map, option_and_then, option_or}
use Rattle.ak_base.specs.Rows.{name_of}
use Rattle.ak_base.specs.declared.cards.Card.{Card}
use Rattle.ak_base.specs.declared.names.Name.{Name}
use Rattle.ak_base.specs.declared.names.Table.{Table}
use Rattle.ak_base.specs.declared.names.Table.TheVariants as tables
use Rattle.ak_base.specs.declared.note_types.NoteType.{NoteType}
use Rattle.ak_base.specs.declared.notes.Note.{Note}
use Rattle.ak_base.specs.declared.rows.Row.{Row}
use Rattle.ak_base.specs.declared.rows.Row.TheVariants as rows
use Rattle.ak_keep.specs.Collections.{Rows, rows_past, cards_of}
use Rattle.ak_merge.specs.declared.checks.CheckFault.{CheckFault}
use Rattle.ak_merge.specs.declared.checks.CheckFault.TheVariants as faults
use Rattle.ak_merge.specs.declared.checks.Part.{Part}
use Rattle.ak_merge.specs.declared.checks.Part.TheVariants as parts

-- the name of a note's type
abbrev pub type_name : Option Row → Option Name
type_name (Some (rows.Note note)) = Some (name_in tables.NoteType note.mid)
type_name (Some (rows.Card c)) = None
type_name (Some (rows.Review r)) = None
type_name (Some (rows.NoteType t)) = None
type_name (Some (rows.Deck d)) = None
type_name (Some (rows.Options o)) = None
type_name (Some (rows.Grave g)) = None
type_name None = None

-- the type of the note of this name, if both are held
abbrev pub type_under : RowsByName → Name → Option Row
type_under at note = option_and_then at (type_name (at note))

-- a standard type has no template at this place
abbrev pub lacks_template : ℤ → Option Row → Bool
lacks_template ord (Some (rows.NoteType t)) = not t.cloze && not (int_lt ord (pos (length t.templates)))
lacks_template ord (Some (rows.Note n)) = false
lacks_template ord (Some (rows.Card c)) = false
lacks_template ord (Some (rows.Review r)) = false
lacks_template ord (Some (rows.Deck d)) = false
lacks_template ord (Some (rows.Options o)) = false
lacks_template ord (Some (rows.Grave g)) = false
lacks_template ord None = false

-- no ids at all
abbrev pub is_empty : List ℤ → Bool
is_empty [] = true
is_empty (id ∷ ids) = false

-- ---- one row at a part of the check
-- whether a part of the check finds a note bad
abbrev pub bad_note : Part → Rows → Note → Bool
bad_note parts.CardNote held note = false
bad_note parts.NoteCard held note = is_empty (cards_of note.id held)
bad_note parts.NoteType held note = not (is_some (get held (name_in tables.NoteType note.mid)))
bad_note parts.CardTemplate held note = false

-- whether a part of the check finds a card bad
abbrev pub bad_card : Part → Rows → Card → Bool
bad_card parts.CardNote held card = not (is_some (get held (name_in tables.Note card.nid)))
bad_card parts.NoteCard held card = false
bad_card parts.NoteType held card = false
bad_card parts.CardTemplate held card = lacks_template card.ord (type_under (get held) (name_in tables.Note card.nid))

-- whether a part of the check finds a row bad
abbrev pub is_bad : Part → Rows → Row → Bool
is_bad part held (rows.Note note) = bad_note part held note
is_bad part held (rows.Card card) = bad_card part held card
is_bad part held (rows.Review r) = false
is_bad part held (rows.NoteType t) = false
is_bad part held (rows.Deck d) = false
is_bad part held (rows.Options o) = false
is_bad part held (rows.Grave g) = false

-- the table whose rows a part of the check asks about
abbrev pub table_of : Part → Table
table_of parts.CardNote = tables.Card
table_of parts.NoteCard = tables.Note
table_of parts.NoteType = tables.Note
table_of parts.CardTemplate = tables.Card

-- the name of the first row, by id, that a part of the check finds bad. Ids are over 0
abbrev pub first_bad : Part → Rows → Option Name
first_bad part held = option_map name_of (find (is_bad part held) (rows_past (table_of part) (pos 0) held))

-- a fault with the id of the first bad row, if there is one
abbrev pub first_of : (ℤ → CheckFault) → Part → Rows → Option CheckFault
first_of fault part held = option_map (λ (name : Name). fault name.id) (first_bad part held)

-- the first fault: by the order of the faults, then by id
abbrev pub first_fault : Rows → Option CheckFault
first_fault held =
    option_or (first_of faults.CardNoNote parts.CardNote held)
    (option_or (first_of faults.NoteNoCard parts.NoteCard held)
    (option_or (first_of faults.NoteNoType parts.NoteType held) (first_of faults.CardNoTemplate parts.CardTemplate held)))

-- ---- sound
-- a collection is sound
pub record IsSound (at : RowsByName) : Type 0 where
  -- Each card's note is held.
  pub card_note : (card : Card) → at (name_in tables.Card card.id) ≡ Some (rows.Card card) → is_some (at (name_in tables.Note card.nid)) ≡ true
  -- Each note has a card.
  pub note_card : (note : Note) → at (name_in tables.Note note.id) ≡ Some (rows.Note note) → (card : Card) × (at (name_in tables.Card card.id) ≡ Some (rows.Card card)) × (card.nid ≡ note.id)
  -- Each note's type is held.
  pub note_type : (note : Note) → at (name_in tables.Note note.id) ≡ Some (rows.Note note) → is_some (at (name_in tables.NoteType note.mid)) ≡ true
  -- Each card whose note has a standard type has an ord below the number of its templates.
  pub template : (card : Card) (note : Note) (type : NoteType) → at (name_in tables.Card card.id) ≡ Some (rows.Card card) → at (name_in tables.Note card.nid) ≡ Some (rows.Note note)
      → at (name_in tables.NoteType note.mid) ≡ Some (rows.NoteType type) → type.cloze ≡ false → card.ord <ℤ pos (length type.templates)

-- ---- faults
-- what each fault says of what stands under names
abbrev pub IsFault : RowsByName → CheckFault → Type 0
-- The card is held, and its note isn't.
IsFault at (faults.CardNoNote id) = (card : Card) × (at (name_in tables.Card id) ≡ Some (rows.Card card)) × (at (name_in tables.Note card.nid) ≡ None)
-- The note is held, and no card of it.
IsFault at (faults.NoteNoCard id) =
    (note : Note) × (at (name_in tables.Note id) ≡ Some (rows.Note note)) × ((card : Card) → at (name_in tables.Card card.id) ≡ Some (rows.Card card) → card.nid ≢ id)
-- The note is held, and its type isn't.
IsFault at (faults.NoteNoType id) = (note : Note) × (at (name_in tables.Note id) ≡ Some (rows.Note note)) × (at (name_in tables.NoteType note.mid) ≡ None)
-- The card, its note and its type are held, and the type is standard and has at most as many templates as the card's ord.
IsFault at (faults.CardNoTemplate id) =
    (card : Card) × (note : Note) × (type : NoteType) × (at (name_in tables.Card id) ≡ Some (rows.Card card)) × (at (name_in tables.Note card.nid) ≡ Some (rows.Note note))
    × (at (name_in tables.NoteType note.mid) ≡ Some (rows.NoteType type)) × (type.cloze ≡ false) × (pos (length type.templates) ≤ℤ card.ord)

-- the place of a fault's kind in their order
abbrev pub fault_number : CheckFault → ℕ
fault_number (faults.CardNoNote id) = 0
fault_number (faults.NoteNoCard id) = 1
fault_number (faults.NoteNoType id) = 2
fault_number (faults.CardNoTemplate id) = 3

-- the id of the row that a fault names
abbrev pub fault_id : CheckFault → ℤ
fault_id (faults.CardNoNote id) = id
fault_id (faults.NoteNoCard id) = id
fault_id (faults.NoteNoType id) = id
fault_id (faults.CardNoTemplate id) = id

-- faults come by their kind, and then by id
abbrev pub is_before : CheckFault → CheckFault → Bool
is_before one other =
    nat_lt (fault_number one) (fault_number other) || ((fault_number one == fault_number other) && int_lt (fault_id one) (fault_id other))

-- this is a fault, and none before it is
pub record IsLeastFault (at : RowsByName) (fault : CheckFault) : Type 0 where
  pub holds : IsFault at fault
  pub below : (other : CheckFault) → is_before other fault ≡ true → ¬ (IsFault at other)
