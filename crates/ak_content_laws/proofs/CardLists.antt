-- Lists of the ids of a note's cards.
use Rattle.std.specs.Prelude.{◌≡◌, ◌&&◌, ◌||◌, ℤ, Bool, true, false, List, ◌∷◌, Option, Some, None}
use Rattle.std.specs.Cmp.{tied_itself}
use Rattle.std.specs.FinMap.{get}
use Rattle.std.specs.Option.{option_map_or}
use Rattle.std.specs.Ordering.{eq_by_cmp, is_eq}
use Rattle.std.proofs.Common.{refl, sym, ap, ◌∙◌}
use Rattle.std.proofs.lemmas.Bool.Decides.{Decides-int_eq}
use Rattle.ak_base.specs.Names.{name_cmp, names_total}
use Rattle.ak_base.specs.declared.cards.Card.{Card}
use Rattle.ak_base.specs.declared.names.Table.TheVariants as tables
use Rattle.ak_base.specs.declared.rows.Row.{Row}
use Rattle.ak_base.specs.declared.rows.Row.TheVariants as rows
use Rattle.ak_keep.specs.Collections.{Rows, cards_of, is_card_of}
use Rattle.ak_merge.proofs.EditFacts.{false_true}
use Rattle.ak_merge.specs.Holdings.{AreNamed, name_in}
use Rattle.ak_notes.proofs.NoteCards.{names_card, names_card_is}

pub and_false : (b : Bool) → (b && false) ≡ false
and_false true = refl
and_false false = refl

or_true : (b : Bool) → (b || true) ≡ true
or_true true = refl
or_true false = refl

-- the first of some ids is among them
pub first_among : (id : ℤ) (ids : List ℤ) → names_card (id ∷ ids) (name_in tables.Card id) ≡ true
first_among id ids = ap (λ (b : Bool). b || names_card ids (name_in tables.Card id)) (ap is_eq (tied_itself names_total (name_in tables.Card id)))

-- so is one of the others
pub later_among : (other id : ℤ) (ids : List ℤ) → names_card ids (name_in tables.Card id) ≡ true → names_card (other ∷ ids) (name_in tables.Card id) ≡ true
later_among other id ids among =
    ap (λ (b : Bool). eq_by_cmp name_cmp (name_in tables.Card id) (name_in tables.Card other) || b) among
    ∙ or_true (eq_by_cmp name_cmp (name_in tables.Card id) (name_in tables.Card other))

-- under an id of a note's cards stands a card of the note
pub card_among : (held : Rows) (note id : ℤ) → AreNamed (get held) → names_card (cards_of note held) (name_in tables.Card id) ≡ true
    → (card : Card) × (get held (name_in tables.Card id) ≡ Some (rows.Card card)) × (card.nid ≡ note)
card_among held note id named among = by (get held (name_in tables.Card id)) refl (sym (names_card_is note held (name_in tables.Card id) named) ∙ among)
  where
    by : (x : Option Row) → get held (name_in tables.Card id) ≡ x → option_map_or (is_card_of note) x false ≡ true → (card : Card) × (get held (name_in tables.Card id) ≡ Some (rows.Card card)) × (card.nid ≡ note)
    by None is of = false_true of
    by (Some (rows.Card card)) is of = (card, is, (Decides-int_eq card.nid note).0 of)
    by (Some (rows.Note x)) is of = false_true of
    by (Some (rows.Review x)) is of = false_true of
    by (Some (rows.NoteType x)) is of = false_true of
    by (Some (rows.Deck x)) is of = false_true of
    by (Some (rows.Options x)) is of = false_true of
    by (Some (rows.Grave x)) is of = false_true of

-- a card of a note is among its cards
pub among_cards : (held : Rows) (note : ℤ) (card : Card) → AreNamed (get held) → get held (name_in tables.Card card.id) ≡ Some (rows.Card card) → card.nid ≡ note
    → names_card (cards_of note held) (name_in tables.Card card.id) ≡ true
among_cards held note card named is of =
    names_card_is note held (name_in tables.Card card.id) named ∙ ap (λ (x : Option Row). option_map_or (is_card_of note) x false) is ∙ (Decides-int_eq card.nid note).1 of
