-- The keys by which a note's cards are found, kept beside the rows.
use Rattle.std.specs.Prelude.{ℤ, Bool, false, Option, Some, None, List}
use Rattle.std.specs.BTreeMap.{is_at}
use Rattle.std.specs.List.{list_any}
use Rattle.std.specs.Option.{option_cmp, option_and_then}
use Rattle.std.specs.Ordering.{int_cmp, int_eq, ordering_then}
use Rattle.std.specs.declared.cmp.Ordering.{Ordering}
use Rattle.ak_base.specs.Names.{name_cmp}
use Rattle.ak_base.specs.declared.names.Name.{Name}
use Rattle.ak_base.specs.declared.rows.Row.{Row}
use Rattle.ak_base.specs.declared.rows.Row.TheVariants as rows
use Rattle.ak_keep.specs.Entries.{row_at}

-- what a card is found by: its note, and its name. With no name it comes before all cards of the note
abbrev pub NoteKey : Type 0
NoteKey = ℤ × Option Name

-- by note, then by name
abbrev pub key_cmp : NoteKey → NoteKey → Ordering
key_cmp x y = ordering_then (int_cmp x.0 y.0) (option_cmp name_cmp x.1 y.1)

-- whether the key is one of these
abbrev pub has_key : List NoteKey → NoteKey → Bool
has_key keys key = list_any (is_at (key_cmp key)) keys

-- the note that a row is a card of
abbrev pub note_of_card : Row → Option ℤ
note_of_card (rows.Note n) = None
note_of_card (rows.Card c) = Some c.nid
note_of_card (rows.Review r) = None
note_of_card (rows.NoteType t) = None
note_of_card (rows.Deck d) = None
note_of_card (rows.Options o) = None
note_of_card (rows.Grave g) = None

-- the note of the card under a name
abbrev pub note_of_card_at : List (Name × Row) → Name → Option ℤ
note_of_card_at es name = option_and_then note_of_card (row_at es name)

-- whether it is this note
abbrev pub is_note : ℤ → Option ℤ → Bool
is_note note None = false
is_note note (Some other) = int_eq other note
