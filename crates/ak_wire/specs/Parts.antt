-- The rows and settings inside messages.
use Rattle.std.specs.Prelude.{◌≡◌, List, option_and_then}
use Rattle.serde_json.specs.Data.{Data, Items}
use Rattle.ak_base.specs.declared.cards.Card.{Card}
use Rattle.ak_base.specs.declared.decks.Deck.{Deck}
use Rattle.ak_base.specs.declared.names.Table.{Table}
use Rattle.ak_base.specs.declared.names.Table.TheVariants as tables
use Rattle.ak_base.specs.declared.note_types.NoteType.{NoteType}
use Rattle.ak_base.specs.declared.notes.Note.{Note}
use Rattle.ak_base.specs.declared.option_groups.Options.{Options}
use Rattle.ak_base.specs.declared.reviews.Review.{Review}
use Rattle.ak_base.specs.declared.rows.Row.TheVariants as rows
use Rattle.ak_json.specs.Rows.{ReadsRow, RefusesRow}
use Rattle.ak_json.specs.declared.faults.JsonFault.{JsonFault}
use Rattle.ak_wire.specs.Faults.{of_json, Then, ReadsEach, RefusesEach}
use Rattle.ak_wire.specs.declared.wire_faults.WireFault.{WireFault}

-- the fault is one of these of JSON
abbrev pub OfJson : (JsonFault → Type 0) → WireFault → Type 0
OfJson these fault = (json : JsonFault) × these json × (fault ≡ of_json json)

-- the value is no row of the table, for this fault
abbrev pub RefusesRowOf : Table → Data → WireFault → Type 0
RefusesRowOf table d = OfJson (RefusesRow table d)

-- the value is read as a note
abbrev pub ReadsNote : Data → Note → Type 0
ReadsNote d note = ReadsRow tables.Note d (rows.Note note)

-- the value is read as a card
abbrev pub ReadsCard : Data → Card → Type 0
ReadsCard d card = ReadsRow tables.Card d (rows.Card card)

-- the value is read as a review
abbrev pub ReadsReview : Data → Review → Type 0
ReadsReview d review = ReadsRow tables.Review d (rows.Review review)

-- the value is read as a note type
abbrev pub ReadsNoteType : Data → NoteType → Type 0
ReadsNoteType d note_type = ReadsRow tables.NoteType d (rows.NoteType note_type)

-- the value is read as a deck
abbrev pub ReadsDeck : Data → Deck → Type 0
ReadsDeck d deck = ReadsRow tables.Deck d (rows.Deck deck)

-- the value is read as an option group
abbrev pub ReadsOptions : Data → Options → Type 0
ReadsOptions d options = ReadsRow tables.Options d (rows.Options options)

-- the fault is one of a row of a list, or every row is read and it is one of those of what follows
abbrev pub ThenAfter : {A : Type 0} → (Data → A → Type 0) → Table → Items → (WireFault → Type 0) → WireFault → Type 0
ThenAfter {A = A} reads table ds others = Then {A = List A} (RefusesEach reads (RefusesRowOf table) ds) (ReadsEach reads ds) others
