-- Changes of the rows of one kind, which leave those of all others as they are.
use Rattle.ak_base.specs.declared.cards.Card.{Card}
use Rattle.ak_base.specs.declared.decks.Deck.{Deck}
use Rattle.ak_base.specs.declared.notes.Note.{Note}
use Rattle.ak_base.specs.declared.rows.Row.{Row}
use Rattle.ak_base.specs.declared.rows.Row.TheVariants as rows

-- a row changed in this way, if it is a note
abbrev pub on_note : (Note → Note) → Row → Row
on_note change (rows.Note note) = rows.Note (change note)
on_note change (rows.Card card) = rows.Card card
on_note change (rows.Review review) = rows.Review review
on_note change (rows.NoteType note_type) = rows.NoteType note_type
on_note change (rows.Deck deck) = rows.Deck deck
on_note change (rows.Options options) = rows.Options options
on_note change (rows.Grave grave) = rows.Grave grave

-- a row changed in this way, if it is a card
abbrev pub on_card : (Card → Card) → Row → Row
on_card change (rows.Card card) = rows.Card (change card)
on_card change (rows.Note note) = rows.Note note
on_card change (rows.Review review) = rows.Review review
on_card change (rows.NoteType note_type) = rows.NoteType note_type
on_card change (rows.Deck deck) = rows.Deck deck
on_card change (rows.Options options) = rows.Options options
on_card change (rows.Grave grave) = rows.Grave grave

-- a row changed in this way, if it is a deck
abbrev pub on_deck : (Deck → Deck) → Row → Row
on_deck change (rows.Deck deck) = rows.Deck (change deck)
on_deck change (rows.Note note) = rows.Note note
on_deck change (rows.Card card) = rows.Card card
on_deck change (rows.Review review) = rows.Review review
on_deck change (rows.NoteType note_type) = rows.NoteType note_type
on_deck change (rows.Options options) = rows.Options options
on_deck change (rows.Grave grave) = rows.Grave grave
