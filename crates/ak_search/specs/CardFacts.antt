-- What a search looks at: a card with its note, its type, its deck and its reviews.
use Rattle.std.specs.Prelude.{ℕ, zero, suc, Bool, false, ◌&&◌, ◌||◌, not, if◌then◌else◌, ℤ, pos, negsuc, int_lt, slice_get, List, [], ◌∷◌, length, Option, Some, None}
use Rattle.std.specs.List.{list_any}
use Rattle.std.specs.Option.{option_and_then}
use Rattle.std.specs.Ordering.{int_eq}
use Rattle.std.specs.Str.{str_eq_ignore_ascii_case}
use Rattle.ak_base.specs.NoteTexts.{fields_in}
use Rattle.ak_base.specs.declared.cards.Card.{Card}
use Rattle.ak_base.specs.declared.decks.Deck.{Deck}
use Rattle.ak_base.specs.declared.names.Table.TheVariants as tables
use Rattle.ak_base.specs.declared.note_types.CardTemplate.{CardTemplate}
use Rattle.ak_base.specs.declared.note_types.FieldDef.{FieldDef}
use Rattle.ak_base.specs.declared.note_types.NoteType.{NoteType}
use Rattle.ak_base.specs.declared.notes.Note.{Note}
use Rattle.ak_base.specs.declared.rows.Row.{Row}
use Rattle.ak_base.specs.declared.rows.Row.TheVariants as rows
use Rattle.ak_filters.specs.Strips.{stripped}
use Rattle.ak_keep.specs.Collections.{Rows, rows_past}
use Rattle.ak_keep.specs.Lookups.{note_at, type_of_note, deck_of_card}

-- ---- texts inside a row

-- how many fields a type has, where it is held
abbrev pub field_count : Option NoteType → ℕ
field_count None = 0
field_count (Some t) = length t.fields

-- at least so many texts: missing ones are empty, and surplus ones stay
abbrev pub filled : ℕ → List (List ℕ) → List (List ℕ)
filled zero texts = texts
filled (suc count) [] = [] ∷ filled count []
filled (suc count) (text ∷ texts) = text ∷ filled count texts

-- the fields that are seen of a note: those it stores, and empty ones where its type has more
abbrev pub fields_seen : Option NoteType → Note → List (List ℕ)
fields_seen note_type n = filled (field_count note_type) (fields_in n.flds)

-- whether the stripped text of some field passes
abbrev pub some_field : (List ℕ → Bool) → Option NoteType → Note → Bool
some_field test note_type n = list_any (λ text. test (stripped text)) (fields_seen note_type n)

-- whether the text of a field of that name passes, the ASCII case of names aside
abbrev pub named_field : List ℕ → (List ℕ → Bool) → List FieldDef → List (List ℕ) → Bool
named_field name test [] texts = false
named_field name test (field ∷ fields) [] = false
named_field name test (field ∷ fields) (text ∷ texts) =
    (str_eq_ignore_ascii_case field.name name && test (stripped text)) || named_field name test fields texts

-- the template at a place from 0
abbrev pub template_at : List CardTemplate → ℤ → Option CardTemplate
template_at templates (pos place) = slice_get templates place
template_at templates (negsuc below) = None

-- the place of a card's template, from 0; a type of clozes makes all cards of its first
abbrev pub template_place : NoteType → Card → ℤ
template_place t c = if t.cloze then pos 0 else c.ord

-- the template of a card
abbrev pub template_of : NoteType → Card → Option CardTemplate
template_of t c = template_at t.templates (template_place t c)

-- ---- what a card belongs to

-- the type of a note, where both are held
abbrev pub type_of : Rows → Option Note → Option NoteType
type_of held note = option_and_then (type_of_note held) note

-- ---- reviews

-- whether a number is at least so much
abbrev pub is_since : ℤ → ℤ → Bool
is_since number least = not (int_lt number least)

-- whether the row is a review of that card, with that ease, and with an id that is at least so much
abbrev pub is_answer : ℤ → ℤ → ℤ → Row → Bool
is_answer card ease least (rows.Review r) = (int_eq r.cid card && int_eq r.ease ease) && is_since r.id least
is_answer card ease least row = false

-- whether some row of a list is such a review
abbrev pub is_answer_in : ℤ → ℤ → ℤ → List Row → Bool
is_answer_in card ease least reviews = list_any (is_answer card ease least) reviews

-- whether some review that is held is such a one
abbrev pub is_answered : Rows → ℤ → ℤ → ℤ → Bool
is_answered held card ease least = is_answer_in card ease least (rows_past tables.Review (pos 0) held)

-- what is seen of a card: itself, its note, its type and its deck, each where it is held, and whether it was
-- answered with an ease in a review with at least that id
pub record Seen : Type 0 where
  pub card : Card
  pub note : Option Note
  pub note_type : Option NoteType
  pub deck : Option Deck
  pub answered : ℤ → ℤ → Bool

-- what the rows of a collection show of a card
abbrev pub seen : Rows → Card → Seen
seen held c = record {
  card = c;
  note = note_at held c.nid;
  note_type = type_of held (note_at held c.nid);
  deck = deck_of_card held c;
  answered = is_answered held c.id;
}
