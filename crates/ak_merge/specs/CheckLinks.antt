-- What the check reads of the rows, and what it knows of them: that no row is bad of which it says that it is good.
use Rattle.std.specs.Prelude.{◌≡◌, ℤ, pos, Bool, true, false, not, ◌<ℤ◌, if◌then◌else◌, is_some, List, length, map, Option, Some, None}
use Rattle.std.specs.FinMap.{get}
use Rattle.std.specs.List.{All, filter_map}
use Rattle.ak_base.specs.declared.cards.Card.{Card}
use Rattle.ak_base.specs.declared.names.Table.{Table}
use Rattle.ak_base.specs.declared.names.Table.TheVariants as tables
use Rattle.ak_base.specs.declared.note_types.NoteType.{NoteType}
use Rattle.ak_base.specs.declared.notes.Note.{Note}
use Rattle.ak_base.specs.declared.rows.Row.{Row}
use Rattle.ak_base.specs.declared.rows.Row.TheVariants as rows
use Rattle.ak_keep.specs.Collections.{Rows, StandsUnderNames, cards_of, rows_past}
use Rattle.ak_merge.specs.Holdings.{name_in}
use Rattle.ak_merge.specs.Soundness.{is_empty, lacks_template, table_of, type_under}
use Rattle.ak_merge.specs.declared.check_links.Link.{Link}
use Rattle.ak_merge.specs.declared.check_links.Links.{Links}
use Rattle.ak_merge.specs.declared.checks.Part.{Part}
use Rattle.ak_merge.specs.declared.checks.Part.TheVariants as parts

-- how many places for cards a type has; clozes have any
abbrev pub places_of : NoteType → ℤ
places_of type = if type.cloze then pos 9_223_372_036_854_775_807 else pos (length type.templates)

-- the link of a card, a note or a type, of which nothing is known yet
abbrev pub link_of : Row → Option Link
link_of (rows.Card c) = Some (record { id = c.id; to = c.nid; ord = c.ord; good = false })
link_of (rows.Note n) = Some (record { id = n.id; to = n.mid; ord = pos 0; good = false })
link_of (rows.NoteType t) = Some (record { id = t.id; to = pos 0; ord = places_of t; good = false })
link_of (rows.Review r) = None
link_of (rows.Deck d) = None
link_of (rows.Options o) = None
link_of (rows.Grave g) = None

-- a link, of which nothing is known
abbrev pub forgotten : Link → Link
forgotten link = record link { good = false }

-- whether a part of the check finds the row of a link bad
abbrev pub bad_link : Part → Rows → Link → Bool
bad_link parts.CardNote held link = not (is_some (get held (name_in tables.Note link.to)))
bad_link parts.NoteCard held link = is_empty (cards_of link.id held)
bad_link parts.NoteType held link = not (is_some (get held (name_in tables.NoteType link.to)))
bad_link parts.CardTemplate held link = lacks_template link.ord (type_under (get held) (name_in tables.Note link.to))

-- if it is said to be good, no part of the check that asks about its table finds it bad
abbrev pub IsGoodIn : Table → Rows → Link → Type 0
IsGoodIn table held link = (part : Part) → table_of part ≡ table → link.good ≡ true → bad_link part held link ≡ false

-- a type of this id is held, and each place below `ord` has a template
abbrev pub IsTypeOf : Rows → Link → Type 0
IsTypeOf held link = (row : Row) × (get held (name_in tables.NoteType link.id) ≡ Some row) × ((ord : ℤ) → ord <ℤ link.ord → lacks_template ord (Some row) ≡ false)

-- a note of this id and this type is held
abbrev pub IsNoteOf : Rows → Link → Type 0
IsNoteOf held link = (note : Note) × (get held (name_in tables.Note link.id) ≡ Some (rows.Note note)) × (note.mid ≡ link.to)

-- a card of this id and this note is held
abbrev pub IsCardOf : Rows → Link → Type 0
IsCardOf held link = (card : Card) × (get held (name_in tables.Card link.id) ≡ Some (rows.Card card)) × (card.nid ≡ link.to)

-- what is known of types, notes and cards while the cards are gone through
pub record AreKnown (held : Rows) (ts ns cs : List Link) : Type 0 where
  pub types : All (IsTypeOf held) ts
  pub notes : All (IsNoteOf held) ns
  pub cards : All (IsCardOf held) cs
  pub good_notes : All (IsGoodIn tables.Note held) ns
  pub good_cards : All (IsGoodIn tables.Card held) cs

-- these are the links of a table's rows, and each that is said to be good is good
pub record AreLinksIn (table : Table) (held : Rows) (links : List Link) : Type 0 where
  pub rows : map forgotten links ≡ filter_map link_of (rows_past table (pos 0) held)
  pub good : All (IsGoodIn table held) links

-- these are the links of all notes and of all cards
pub record AreLinksOf (held : Rows) (links : Links) : Type 0 where
  pub named : StandsUnderNames held
  pub notes : AreLinksIn tables.Note held links.notes.items
  pub cards : AreLinksIn tables.Card held links.cards.items
