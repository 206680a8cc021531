-- The edit of an early answer is admitted.
use Rattle.std.specs.Prelude.{◌≡◌, ◌||◌, ℤ, true, false, is_some, Option, Some, None, option_and_then}
use Rattle.std.proofs.Common.{refl, sym, ap, ◌∙◌}
use Rattle.std.proofs.lemmas.Option.{none-some, same_Some}
use Rattle.ak_away_answers.specs.EarlyAnswers.{IsEarly, early_edit}
use Rattle.ak_base.specs.Rows.{name_of}
use Rattle.ak_base.specs.declared.cards.Card.{Card}
use Rattle.ak_base.specs.declared.days.Day.{Day}
use Rattle.ak_base.specs.declared.names.Name.{Name}
use Rattle.ak_base.specs.declared.names.Table.TheVariants as tables
use Rattle.ak_base.specs.declared.reviews.Review.{Review}
use Rattle.ak_base.specs.declared.rows.Row.{Row}
use Rattle.ak_base.specs.declared.rows.Row.TheVariants as rows
use Rattle.ak_filtered.proofs.CardChanges.{home_id}
use Rattle.ak_filtered.specs.HomeDecks.{filtered_at}
use Rattle.ak_keep.specs.Collections.{Collection}
use Rattle.ak_keep.specs.Lookups.{as_card, card_at}
use Rattle.ak_merge.proofs.EditBuildingLaws.{puts_are_admitted, unedited_is_admitted}
use Rattle.ak_merge.proofs.EditFacts.{true_false}
use Rattle.ak_merge.specs.EditBuilding.{MayPut, unedited, with_row}
use Rattle.ak_merge.specs.Edits.{Admits}
use Rattle.ak_merge.specs.Holdings.{AreNamed, name_in, row_under}
use Rattle.ak_study.specs.declared.answers.CardAnswer.{CardAnswer}

-- the row of a card that is held
held_row : (id : ℤ) (card : Card) (x : Option Row) → option_and_then as_card x ≡ Some card → x ≡ Some (rows.Card card)
held_row id card None is = absurd (none-some card is)
held_row id card (Some (rows.Card own)) is = ap (λ (c : Card). Some (rows.Card c)) (same_Some own card is)
held_row id card (Some (rows.Note note)) is = absurd (none-some card is)
held_row id card (Some (rows.Review review)) is = absurd (none-some card is)
held_row id card (Some (rows.NoteType note_type)) is = absurd (none-some card is)
held_row id card (Some (rows.Deck deck)) is = absurd (none-some card is)
held_row id card (Some (rows.Options options)) is = absurd (none-some card is)
held_row id card (Some (rows.Grave grave)) is = absurd (none-some card is)

none_held : (x : Option Row) → (is_some x || false) ≡ false → x ≡ None
none_held None is = refl
none_held (Some row) is = absurd (true_false is)

pub early_answers_are_admitted : (at : ℤ) (given : CardAnswer) (day : Day) (made : Card) (review : Review) (c : Collection) → AreNamed (row_under c) → IsEarly at given day c made review
    → Admits c (early_edit made review c)
early_answers_are_admitted at given day made review c named is =
    let held : row_under c (name_in tables.Card given.card) ≡ Some (rows.Card is.was) = held_row given.card is.was (row_under c (name_in tables.Card given.card)) is.is_held in
    let bears : is.was.id ≡ given.card = ap (λ (n : Name). n.id) (named (name_in tables.Card given.card) (rows.Card is.was) held) in
    let id : made.id ≡ given.card = ap (λ (card : Card). card.id) is.card ∙ home_id (filtered_at c.rows) is.was ∙ bears in
    let card : MayPut c (rows.Card made) = record {
      free = λ none. absurd (none-some (rows.Card is.was) (sym none ∙ ap (λ (n : ℤ). row_under c (name_in tables.Card n)) id ∙ held));
      review = λ other. absurd (cc);
    } in
    let row : MayPut c (rows.Review review) = record { free = λ _. refl; review = λ _. none_held (row_under c (name_in tables.Review review.id)) is.free.free } in
    puts_are_admitted c (with_row (rows.Card made) (unedited c)) (rows.Review review) (puts_are_admitted c (unedited c) (rows.Card made) (unedited_is_admitted c named) card) row
