-- The cards that a note lacks, as an edit makes them.
use Rattle.std.specs.Prelude.{◌≡◌, ℤ, pos, ◌≤ℤ◌, Bool, true, false, not, List, [], ◌∷◌, filter, length, ◌++◌, Option, Some, None}
use Rattle.std.specs.FinMap.{get}
use Rattle.std.specs.Option.{option_map_or}
use Rattle.ak_base.specs.Heads.{IsConfInRange}
use Rattle.ak_base.specs.declared.cards.Card.{Card}
use Rattle.ak_base.specs.declared.heads.Conf.{Conf}
use Rattle.ak_base.specs.declared.names.Table.TheVariants as tables
use Rattle.ak_edit_calls.specs.Calls.{has_id}
use Rattle.ak_keep.specs.FreeNames.{is_used}
use Rattle.ak_edit_calls.specs.NewNames.{RefusesIdsFrom, first_name}
use Rattle.ak_edit.specs.Refusals.{Refusal}
use Rattle.ak_keep.specs.Collections.{Holding, Rows, cards_of}
use Rattle.ak_keep.specs.Lookups.{card_at}
use Rattle.ak_notes.specs.NewCards.{AreNewCards, at_least_one, conf_after, first_after}
use Rattle.ak_notes.specs.declared.lacking_notes.HeldCards.{HeldCards}
use Rattle.ak_notes.specs.declared.lacking_notes.LackingNote.{LackingNote}
use Rattle.ak_notes.specs.declared.lacking_notes.MissingCards.{MissingCards}
use Rattle.ak_notes.specs.declared.lacking_notes.NextCards.{NextCards}
use Rattle.ak_notes.specs.declared.new_cards.CardPlace.{CardPlace}

-- ---- the cards that a note has
-- the ord of a card, if it is held
abbrev pub held_ord : Option Card → List ℤ
held_ord None = []
held_ord (Some card) = card.ord ∷ []

-- the ords of the cards of these ids
abbrev pub held_ords : Rows → List ℤ → List ℤ
held_ords held [] = []
held_ords held (id ∷ ids) = held_ord (card_at held id) ++ held_ords held ids

-- the deck of a card, deck 1 if there is no card
abbrev pub deck_in : Option Card → ℤ
deck_in found = option_map_or (λ (card : Card). card.did) found (pos 1)

-- the deck of the card of the first of these ids, deck 1 if there is none
abbrev pub first_deck : Rows → List ℤ → ℤ
first_deck held [] = pos 1
first_deck held (id ∷ ids) = deck_in (card_at held id)

-- the ords of a note's cards, and the deck for those that it lacks: the deck of its card of the least id
abbrev pub cards_held : Rows → ℤ → HeldCards
cards_held held note = record {
  ords = held_ords held (cards_of note held);
  deck = first_deck held (cards_of note held);
}

-- ---- the cards that it lacks
-- those of the ords that are not there
abbrev pub missing_from : List ℤ → List ℤ → List ℤ
missing_from there ords = filter (λ (ord : ℤ). not (has_id there ord)) ords

-- ord 0, if a note needs a card, has none there and gets none
abbrev pub or_first : Bool → List ℤ → List ℤ → List ℤ
or_first false there missing = missing
or_first true [] missing = at_least_one missing
or_first true (ord ∷ there) missing = missing

-- the ords of the cards that a note lacks: those that its fields show and that are not there
abbrev pub lacked_ords : LackingNote → List ℤ
lacked_ords lacking = or_first lacking.needs_card lacking.held.ords (missing_from lacking.held.ords lacking.shown)

-- ---- where they go
-- at a moment, with these settings: no card was made yet
abbrev pub next_at : ℤ → Conf → NextCards
next_at at conf = record { first = first_name tables.Card at; conf = conf }

-- after these cards
abbrev pub next_after : List Card → NextCards → NextCards
next_after cards next = record { first = first_after cards next.first; conf = conf_after cards next.conf }

-- the next card's name is one of a card, with an id from 1 on, and the settings are in their ranges
pub record IsReady (next : NextCards) : Type 0 where
  pub table : next.first.table ≡ tables.Card
  pub id : pos 1 ≤ℤ next.first.id
  pub conf : IsConfInRange next.conf

-- the place of the cards that a note lacks: in its deck, and all of them at the next place
abbrev pub missing_place : LackingNote → NextCards → CardPlace
missing_place lacking next = record { note = lacking.note; deck = lacking.held.deck; due = next.conf.next_pos }

-- ---- what is made, and why it can't be
-- a card for each ord that the note lacks
abbrev pub AreMissing : LackingNote → NextCards → Rows → List Card → Type 0
AreMissing lacking next held cards =
    AreNewCards (is_used (get held)) (missing_place lacking next) next.first (lacked_ords lacking) cards

-- the same of what is held
abbrev pub AreMissingIn : LackingNote → NextCards → MissingCards → Holding → Type 0
AreMissingIn lacking next made h = AreMissing lacking next h.rows made.cards

-- there are too few free ids for them
abbrev pub RefusesMissingIds : LackingNote → NextCards → Rows → Refusal
RefusesMissingIds lacking next held = RefusesIdsFrom next.first (length (lacked_ords lacking)) (get held)
