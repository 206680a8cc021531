-- The edit of an answer is admitted.
use Rattle.std.specs.Prelude.{◌≡◌, ℤ, negsuc, Bool, true, false, ◌&&◌, ◌||◌, if◌then◌else◌, Option, Some, None, is_some}
use Rattle.std.proofs.Common.{refl, sym, ap, ◌∙◌}
use Rattle.std.proofs.lemmas.Bool.Decides.{Decides-int_eq}
use Rattle.std.specs.Ordering.{int_eq}
use Rattle.ak_base.specs.Rows.{name_of}
use Rattle.ak_base.specs.declared.cards.Card.{Card}
use Rattle.ak_base.specs.declared.days.Day.{Day}
use Rattle.ak_base.specs.declared.decks.Deck.{Deck}
use Rattle.ak_base.specs.declared.names.Table.TheVariants as tables
use Rattle.ak_base.specs.declared.notes.Note.{Note}
use Rattle.ak_base.specs.declared.rows.Row.{Row}
use Rattle.ak_base.specs.declared.rows.Row.TheVariants as rows
use Rattle.ak_keep.specs.Collections.{Collection, Rows}
use Rattle.ak_keep.specs.Lookups.{deck_of_card}
use Rattle.ak_merge.proofs.EditBuildingLaws.{maps_are_admitted, puts_are_admitted, tags_are_admitted}
use Rattle.ak_merge.proofs.EditFacts.{true_false}
use Rattle.ak_merge.specs.EditBuilding.{MayMap, MayPut, with_row, with_rows_mapped}
use Rattle.ak_merge.specs.Edits.{Admits}
use Rattle.ak_merge.specs.Holdings.{AreNamed, name_in, row_under}
use Rattle.ak_study.proofs.AdmittedEdits.{day_starts_are_admitted}
use Rattle.ak_study.proofs.AnsweredRows.{counted_named}
use Rattle.ak_study.specs.Answers.{IsAnswering, answer_edit, card_answered, row_answered, tags_answered}
use Rattle.ak_study.specs.DayStarts.{day_start}
use Rattle.ak_study.specs.DeckCounts.{counted, counts_for, deck_answered}
use Rattle.ak_study.specs.LeechTags.{leech_tagged}
use Rattle.ak_study.specs.Siblings.{is_buried_by, sibling_after}
use Rattle.ak_study.specs.declared.answerings.Answering.{Answering}
use Rattle.ak_study.specs.declared.answers.CardAnswer.{CardAnswer}

-- ---- each row keeps its name
sibling_id : (b : Bool) (card : Card) → (if b then record card { queue = negsuc 1 } else card).id ≡ card.id
sibling_id true card = refl
sibling_id false card = refl

card_id : (day : Day) (a : Answering) (card : Card) → a.made.id ≡ a.was.id → (card_answered day a card).id ≡ card.id
card_id day a card made =
    elim (int_eq card.id a.was.id) as (λ b. int_eq card.id a.was.id ≡ b → (if b then a.made else sibling_after a.was a.options day card).id ≡ card.id) [
      | true ↦ λ is. made ∙ sym ((Decides-int_eq card.id a.was.id).0 is)
      | false ↦ λ _. sibling_id (is_buried_by a.was a.options day card) card
    ] refl

note_id : (b : Bool) (note : Note) → (if b then leech_tagged note else note).id ≡ note.id
note_id true note = refl
note_id false note = refl

deck_named : (day : Day) (queue : ℤ) (home : Option Deck) (d : Deck) → name_of (rows.Deck (deck_answered day queue home d)) ≡ name_of (rows.Deck d)
deck_named day queue None d = refl
deck_named day queue (Some home) d =
    elim (counts_for home d) as (λ b. name_of (rows.Deck (if b then counted day queue d else d)) ≡ name_of (rows.Deck d)) [ true ↦ counted_named day queue home d | false ↦ refl ]

module _ (day : Day) (a : Answering) (held : Rows) (made : a.made.id ≡ a.was.id) where
  answered_name : (row : Row) → name_of (row_answered day a held row) ≡ name_of row
  answered_name (rows.Card card) = ap (name_in tables.Card) (card_id day a card made)
  answered_name (rows.Note note) = ap (name_in tables.Note) (note_id (a.answered.leech && int_eq note.id a.was.nid) note)
  answered_name (rows.Deck d) = deck_named day a.was.queue (deck_of_card held a.was) d
  answered_name (rows.Review review) = refl
  answered_name (rows.NoteType note_type) = refl
  answered_name (rows.Options options) = refl
  answered_name (rows.Grave grave) = refl

  review_stays : (row : Row) → (name_of row).table ≡ tables.Review → row_answered day a held row ≡ row
  review_stays (rows.Card card) is = absurd (cc)
  review_stays (rows.Note note) is = absurd (cc)
  review_stays (rows.Deck d) is = absurd (cc)
  review_stays (rows.Review review) is = refl
  review_stays (rows.NoteType note_type) is = refl
  review_stays (rows.Options options) is = refl
  review_stays (rows.Grave grave) is = refl

-- ---- the review is new: reviews leave no graves
none_held : (x : Option Row) → (is_some x || false) ≡ false → x ≡ None
none_held None is = refl
none_held (Some row) is = absurd (true_false is)

pub answers_are_admitted : (at : ℤ) (given : CardAnswer) (day : Day) (a : Answering) (c : Collection) → AreNamed (row_under c) → IsAnswering at day given c a → Admits c (answer_edit day a c)
answers_are_admitted at given day a c named is =
    let made : a.made.id ≡ a.was.id = ap (λ (card : Card). card.id) is.scheduled.card in
    let may : MayMap (row_answered day a c.rows) = record { name = answered_name day a c.rows made; review = review_stays day a c.rows made } in
    let puts : MayPut c (rows.Review a.answered.review) = record { free = λ _. refl; review = λ _. none_held (row_under c (name_in tables.Review a.answered.review.id)) is.review.free } in
    tags_are_admitted c (with_row (rows.Review a.answered.review) (with_rows_mapped (row_answered day a c.rows) (day_start day c))) (tags_answered a c.rows)
    (puts_are_admitted c (with_rows_mapped (row_answered day a c.rows) (day_start day c)) (rows.Review a.answered.review)
    (maps_are_admitted c (day_start day c) (row_answered day a c.rows) (day_starts_are_admitted day c named) may) puts)
