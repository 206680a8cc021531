-- Rows of one kind by their ids, the decks, and the rows that a note or a card belongs to.
use Rattle.std.specs.Prelude.{ℤ, pos, List, Option, Some, None}
use Rattle.std.specs.FinMap.{get}
use Rattle.std.specs.List.{filter_map}
use Rattle.std.specs.Option.{option_and_then, option_or}
use Rattle.ak_base.specs.declared.notes.Note.{Note}
use Rattle.ak_base.specs.declared.cards.Card.{Card}
use Rattle.ak_base.specs.declared.note_types.NoteType.{NoteType}
use Rattle.ak_base.specs.declared.decks.Deck.{Deck}
use Rattle.ak_base.specs.declared.option_groups.Options.{Options}
use Rattle.ak_base.specs.declared.names.Table.{Table}
use Rattle.ak_base.specs.declared.names.Table.TheVariants as tables
use Rattle.ak_base.specs.declared.rows.Row.{Row}
use Rattle.ak_base.specs.declared.rows.Row.TheVariants as rows
use Rattle.ak_keep.specs.Collections.{Rows, rows_past}

-- the row, if it is a note
abbrev pub as_note : Row → Option Note
as_note (rows.Note x) = Some x
as_note row = None

-- the row, if it is a card
abbrev pub as_card : Row → Option Card
as_card (rows.Card x) = Some x
as_card row = None

-- the row, if it is a note type
abbrev pub as_note_type : Row → Option NoteType
as_note_type (rows.NoteType x) = Some x
as_note_type row = None

-- the row, if it is a deck
abbrev pub as_deck : Row → Option Deck
as_deck (rows.Deck x) = Some x
as_deck row = None

-- the row, if it is a group of options
abbrev pub as_options : Row → Option Options
as_options (rows.Options x) = Some x
as_options row = None

-- the decks that are held, by ascending id: an id is at least 1
abbrev pub decks_in : Rows → List Deck
decks_in held = filter_map as_deck (rows_past tables.Deck (pos 0) held)

-- the cards that are held, by ascending id: an id is at least 1
abbrev pub cards_in : Rows → List Card
cards_in held = filter_map as_card (rows_past tables.Card (pos 0) held)

-- the row of a table under an id
abbrev pub row_of_id : Rows → Table → ℤ → Option Row
row_of_id held table id = get held (record { table = table; id = id })

-- the note of an id
abbrev pub note_at : Rows → ℤ → Option Note
note_at held id = option_and_then as_note (row_of_id held tables.Note id)

-- the card of an id
abbrev pub card_at : Rows → ℤ → Option Card
card_at held id = option_and_then as_card (row_of_id held tables.Card id)

-- the note type of an id
abbrev pub note_type_at : Rows → ℤ → Option NoteType
note_type_at held id = option_and_then as_note_type (row_of_id held tables.NoteType id)

-- the deck of an id
abbrev pub deck_at : Rows → ℤ → Option Deck
deck_at held id = option_and_then as_deck (row_of_id held tables.Deck id)

-- the options of an id
abbrev pub options_at : Rows → ℤ → Option Options
options_at held id = option_and_then as_options (row_of_id held tables.Options id)

-- the type of a note
abbrev pub type_of_note : Rows → Note → Option NoteType
type_of_note held note = note_type_at held note.mid

-- the deck of a card, and deck 1 if that is not held
abbrev pub deck_of_card : Rows → Card → Option Deck
deck_of_card held card = option_or (deck_at held card.did) (deck_at held (pos 1))

-- the options of a deck, and options 1 if those are not held
abbrev pub options_of_deck : Rows → Deck → Option Options
options_of_deck held deck = option_or (options_at held deck.options) (options_at held (pos 1))

-- the options of a deck if it is held, and options 1 if not
abbrev pub options_of : Rows → Option Deck → Option Options
options_of held None = options_at held (pos 1)
options_of held (Some deck) = options_of_deck held deck

-- the options of a card: those of its deck, and options 1 if its deck is not held
abbrev pub options_of_card : Rows → Card → Option Options
options_of_card held card = options_of held (deck_at held card.did)
