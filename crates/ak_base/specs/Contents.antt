-- What a row says besides its stamp and its usn: rows that are equal but for these.
use Rattle.std.specs.Prelude.{ℕ, ℤ, pos, Bool, ◌&&◌, ◌==◌, if◌then◌else◌, List, [], ◌∷◌}
use Rattle.std.specs.Cmp.Lexicographic.{pointwise}
use Rattle.std.specs.Ordering.{int_eq}
use Rattle.ak_base.specs.Rows.{stamp_of}
use Rattle.ak_base.specs.declared.cards.Card.{Card}
use Rattle.ak_base.specs.declared.decks.Deck.{Deck}
use Rattle.ak_base.specs.declared.graves.Grave.{Grave}
use Rattle.ak_base.specs.declared.note_types.CardTemplate.{CardTemplate}
use Rattle.ak_base.specs.declared.note_types.FieldDef.{FieldDef}
use Rattle.ak_base.specs.declared.note_types.NoteType.{NoteType}
use Rattle.ak_base.specs.declared.notes.Note.{Note}
use Rattle.ak_base.specs.declared.option_groups.Options.{Options}
use Rattle.ak_base.specs.declared.reviews.Review.{Review}
use Rattle.ak_base.specs.declared.rows.Row.{Row}
use Rattle.ak_base.specs.declared.rows.Row.TheVariants as rows

-- equal lists of numbers
abbrev pub same_numbers : List ℤ → List ℤ → Bool
same_numbers = pointwise int_eq

-- equal lists of texts
abbrev pub same_texts : List (List ℕ) → List (List ℕ) → Bool
same_texts = pointwise (pointwise ◌==◌)

-- a truth value as a number
abbrev pub truth : Bool → ℤ
truth b = if b then pos 1 else pos 0

-- ---- the numbers of a row but for its stamp and its usn
-- of a note
abbrev pub note_numbers : Note → List ℤ
note_numbers n = n.id ∷ n.mid ∷ n.csum ∷ n.flags ∷ []

-- the texts of a note
abbrev pub note_texts : Note → List (List ℕ)
note_texts n = n.guid ∷ n.tags ∷ n.flds ∷ n.sfld ∷ n.extra ∷ []

-- of a card
abbrev pub card_numbers : Card → List ℤ
card_numbers c =
    c.id ∷ c.nid ∷ c.did ∷ c.ord ∷ c.kind ∷ c.queue ∷ c.due ∷ c.ivl ∷ c.factor ∷ c.reps ∷ c.lapses ∷ c.left ∷ c.odue ∷ c.odid ∷ c.flags ∷ []

-- of a review
abbrev pub review_numbers : Review → List ℤ
review_numbers r = r.id ∷ r.cid ∷ r.ease ∷ r.ivl ∷ r.last_ivl ∷ r.factor ∷ r.time ∷ r.kind ∷ []

-- of a grave
abbrev pub grave_numbers : Grave → List ℤ
grave_numbers g = g.oid ∷ g.kind ∷ []

-- of a deck
abbrev pub deck_numbers : Deck → List ℤ
deck_numbers d =
    d.id ∷ d.options ∷ truth d.filtered ∷ d.new_today.day ∷ d.new_today.count ∷ d.rev_today.day ∷ d.rev_today.count ∷ []

-- of an option group: of every card, and of new cards
abbrev pub general_numbers : Options → List ℤ
general_numbers o = o.id ∷ o.max_taken ∷ o.grad_ivl ∷ o.easy_ivl ∷ o.initial_factor ∷ o.new_per_day ∷ truth o.new_bury ∷ []

-- of an option group: of reviews
abbrev pub review_options : Options → List ℤ
review_options o = o.rev_per_day ∷ o.ease4 ∷ o.ivl_fct ∷ o.max_ivl ∷ o.hard_factor ∷ truth o.rev_bury ∷ []

-- of an option group: of cards that were forgotten
abbrev pub lapse_numbers : Options → List ℤ
lapse_numbers o = o.mult ∷ o.min_int ∷ o.leech_fails ∷ o.leech_action ∷ []

-- of a note type
abbrev pub note_type_numbers : NoteType → List ℤ
note_type_numbers t = t.id ∷ truth t.cloze ∷ t.sortf ∷ []

-- equal fields of a note type
abbrev pub same_field : FieldDef → FieldDef → Bool
same_field a b = pointwise ◌==◌ a.name b.name && pointwise ◌==◌ a.rest.text b.rest.text

-- equal templates
abbrev pub same_template : CardTemplate → CardTemplate → Bool
same_template a b =
    ((pointwise ◌==◌ a.name b.name && pointwise ◌==◌ a.front b.front) && pointwise ◌==◌ a.back b.back) && pointwise ◌==◌ a.rest.text b.rest.text

-- ---- of any row
-- which kind it is of
abbrev pub kind_of : Row → ℕ
kind_of (rows.Note n) = 0
kind_of (rows.Card c) = 1
kind_of (rows.Review r) = 2
kind_of (rows.NoteType t) = 3
kind_of (rows.Deck d) = 4
kind_of (rows.Options o) = 5
kind_of (rows.Grave g) = 6

-- its numbers, in groups
abbrev pub numbers_of : Row → List (List ℤ)
numbers_of (rows.Note n) = note_numbers n ∷ []
numbers_of (rows.Card c) = card_numbers c ∷ []
numbers_of (rows.Review r) = review_numbers r ∷ []
numbers_of (rows.NoteType t) = note_type_numbers t ∷ []
numbers_of (rows.Deck d) = deck_numbers d ∷ []
numbers_of (rows.Options o) = general_numbers o ∷ o.new_steps ∷ review_options o ∷ lapse_numbers o ∷ o.lapse_steps ∷ []
numbers_of (rows.Grave g) = grave_numbers g ∷ []

-- its texts
abbrev pub texts_of : Row → List (List ℕ)
texts_of (rows.Note n) = note_texts n
texts_of (rows.Card c) = c.extra ∷ []
texts_of (rows.Review r) = []
texts_of (rows.NoteType t) = t.name ∷ t.rest.text ∷ []
texts_of (rows.Deck d) = d.name ∷ d.rest.text ∷ []
texts_of (rows.Options o) = o.name ∷ o.rest.text ∷ []
texts_of (rows.Grave g) = []

-- the fields of a note type
abbrev pub fields_of : Row → List FieldDef
fields_of (rows.Note n) = []
fields_of (rows.Card c) = []
fields_of (rows.Review r) = []
fields_of (rows.NoteType t) = t.fields
fields_of (rows.Deck d) = []
fields_of (rows.Options o) = []
fields_of (rows.Grave g) = []

-- the templates of a note type
abbrev pub templates_of : Row → List CardTemplate
templates_of (rows.Note n) = []
templates_of (rows.Card c) = []
templates_of (rows.Review r) = []
templates_of (rows.NoteType t) = t.templates
templates_of (rows.Deck d) = []
templates_of (rows.Options o) = []
templates_of (rows.Grave g) = []

-- equal but for the stamp and the usn
abbrev pub same_but_stamp_and_usn : Row → Row → Bool
same_but_stamp_and_usn a b =
    (kind_of a == kind_of b && pointwise same_numbers (numbers_of a) (numbers_of b)) && (same_texts (texts_of a) (texts_of b)
    && (pointwise same_field (fields_of a) (fields_of b) && pointwise same_template (templates_of a) (templates_of b)))

-- equal but for the usn
abbrev pub same_content : Row → Row → Bool
same_content a b = int_eq (stamp_of a) (stamp_of b) && same_but_stamp_and_usn a b
