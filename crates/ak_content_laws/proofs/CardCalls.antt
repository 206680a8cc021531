-- Calls on cards, decks, options and the day leave notes, cards and types alike: answers too, early ones and filtered decks.
use Rattle.std.specs.Prelude.{◌≡◌, ◌&&◌, ℕ, ℤ, pos, negsuc, Bool, true, false, cond, if◌then◌else◌, int_lt, is_some, List, Option, Some, None, option_and_then}
use Rattle.std.proofs.Common.{refl, sym, ap, ◌∙◌}
use Rattle.std.proofs.lemmas.Bool.Decides.{Decides-int_eq}
use Rattle.std.proofs.lemmas.Option.{same_Some}
use Rattle.std.specs.Option.{option_map_or}
use Rattle.std.specs.Ordering.{int_eq}
use Rattle.ak_away_answers.specs.EarlyAnswers.{IsEarly, early_edit}
use Rattle.ak_base.specs.Rows.{name_of}
use Rattle.ak_base.specs.declared.cards.Card.{Card}
use Rattle.ak_base.specs.declared.days.Day.{Day}
use Rattle.ak_base.specs.declared.decks.Deck.{Deck}
use Rattle.ak_base.specs.declared.names.Name.{Name}
use Rattle.ak_base.specs.declared.names.Table.TheVariants as tables
use Rattle.ak_base.specs.declared.notes.Note.{Note}
use Rattle.ak_base.specs.declared.option_groups.Options.{Options}
use Rattle.ak_base.specs.declared.reviews.Review.{Review}
use Rattle.ak_base.specs.declared.rows.Row.{Row}
use Rattle.ak_base.specs.declared.rows.Row.TheVariants as rows
use Rattle.ak_edit_calls.specs.CardEdits.{card_edit, changed_if, changed_row}
use Rattle.ak_edit_calls.specs.Calls.{has_id}
use Rattle.ak_edit_calls.specs.RowEdits.{row_edit}
use Rattle.ak_deck_paths.specs.Additions.{addition}
use Rattle.ak_deck_paths.specs.ChangedDecks.{with_decks}
use Rattle.ak_deck_paths.specs.DeckPaths.{renamed}
use Rattle.ak_deck_paths.specs.Renames.{renaming}
use Rattle.ak_decks.specs.DeckOptions.{options_use, using_options}
use Rattle.ak_filtered.specs.Builds.{building, moved_in, refilled}
use Rattle.ak_filtered.specs.Emptyings.{emptied, emptying, is_away_in}
use Rattle.ak_filtered.specs.HomeDecks.{DeckFlags, filtered_at, gone_home, is_away, sending_home}
use Rattle.ak_keep.specs.Collections.{Collection}
use Rattle.ak_keep.specs.Graves.{RowsByName}
use Rattle.ak_keep.specs.Keepers.{Keeping}
use Rattle.ak_keep.specs.Lookups.{as_card}
use Rattle.ak_merge.proofs.EditFacts.{none_held}
use Rattle.ak_merge.specs.EditBuilding.{unedited, with_conf, with_row, with_rows_mapped}
use Rattle.ak_merge.specs.Edits.{Edit}
use Rattle.ak_merge.specs.Holdings.{AreNamed, name_in, row_under}
use Rattle.ak_options.specs.OptionDeletions.{has_options, options_deletion, with_default, without_options}
use Rattle.ak_study.proofs.AdmittedEdits.{day_starts_are_admitted}
use Rattle.ak_study.specs.Answers.{IsAnswered, answer_edit, row_answered}
use Rattle.ak_study.specs.CardPlaces.{buried_by_hand, lies_buried, queued, restored, unburied, unsuspended}
use Rattle.ak_study.specs.DayStarts.{begun_on, day_start, is_new_day, unburied_row}
use Rattle.ak_study.specs.LeechTags.{leech_tagged}
use Rattle.ak_study.specs.Siblings.{is_buried_by, sibling_after}
use Rattle.ak_study.specs.declared.answers.CardAnswer.{CardAnswer}
use Rattle.ak_undo.specs.declared.steps.Step.{Step}
use Rattle.ak_content_laws.proofs.AlikeEdits.{KeepsPlace, changed_shape, decks_alike, mapped_alike, mapped_held, place_if, row_alike}
use Rattle.ak_content_laws.proofs.Shapes.{AreAlike, Shape, alike_through, shape}

-- the rows as they are
pub alike_itself : (at : RowsByName) → AreAlike at at
alike_itself at = record { card = λ id. refl; note = λ id. refl; type = λ id. refl }

-- ---- cards that change one by one
pub card_edit_alike : (change : Card → Card) (cards : List ℤ) (c : Collection) → KeepsPlace change → AreAlike (row_under c) (card_edit change cards c).rows
card_edit_alike change cards c keeps = mapped_alike (row_under c) (changed_if (has_id cards) change) (changed_shape (has_id cards) change keeps)

pub unsuspended_place : KeepsPlace unsuspended
unsuspended_place card = place_if (int_eq card.queue (negsuc 0)) (restored card) card card refl refl

pub buried_place : KeepsPlace buried_by_hand
buried_place card = place_if (int_lt card.queue (pos 0)) card (queued (negsuc 2) card) card refl refl

unburied_place : KeepsPlace unburied
unburied_place card = place_if (lies_buried card) (restored card) card card refl refl

home_place : (flags : DeckFlags) → KeepsPlace (gone_home flags)
home_place flags card =
    place_if (is_away card) (record card { did = if is_some (flags card.odid) then card.odid else pos 1; due = card.odue; odue = pos 0; odid = pos 0 }) card card refl refl

emptied_place : (deck : ℤ) (flags : DeckFlags) → KeepsPlace (emptied deck flags)
emptied_place deck flags card = place_if (is_away_in deck card) (gone_home flags card) card card (home_place flags card) refl

refilled_place : (deck : ℤ) (flags : DeckFlags) (dues : ℤ → Option ℤ) → KeepsPlace (refilled deck flags dues)
refilled_place deck flags dues card =
    elim (dues card.id) as (λ (o : Option ℤ). shape (Some (rows.Card (option_map_or (λ (due : ℤ). moved_in deck due (emptied deck flags card)) o (emptied deck flags card)))) ≡ shape (Some (rows.Card card))) [
      | None ↦ emptied_place deck flags card
      | Some due ↦ emptied_place deck flags card
    ]

pub home_alike : (cards : List ℤ) (c : Collection) → AreAlike (row_under c) (sending_home cards c).rows
home_alike cards c = card_edit_alike (gone_home (filtered_at c.rows)) cards c (home_place (filtered_at c.rows))

all_changed : (change : Card → Card) (c : Collection) → KeepsPlace change → AreAlike (row_under c) (with_rows_mapped (changed_row change) (unedited c)).rows
all_changed change c keeps = mapped_alike (row_under c) (changed_row change) (changed_shape (λ _. true) change keeps)

pub emptying_alike : (deck : ℤ) (c : Collection) → AreAlike (row_under c) (emptying deck c).rows
emptying_alike deck c = all_changed (emptied deck (filtered_at c.rows)) c (emptied_place deck (filtered_at c.rows))

pub building_alike : (deck : ℤ) (chosen : List ℤ) (c : Collection) → AreAlike (row_under c) (building deck chosen c).rows
building_alike deck chosen c = all_changed _ c (refilled_place deck (filtered_at c.rows) _)

-- ---- decks and options
pub addition_alike : (made : List Deck) (c : Collection) → AreAlike (row_under c) (addition made c).rows
addition_alike made c = decks_alike made (unedited c)

renamed_shape : (old new : List ℕ) (row : Row) → shape (Some (renamed old new row)) ≡ shape (Some row)
renamed_shape old new (rows.Deck x) = refl
renamed_shape old new (rows.Note x) = refl
renamed_shape old new (rows.Card x) = refl
renamed_shape old new (rows.Review x) = refl
renamed_shape old new (rows.NoteType x) = refl
renamed_shape old new (rows.Options x) = refl
renamed_shape old new (rows.Grave x) = refl

pub renaming_alike : (old new : List ℕ) (made : List Deck) (c : Collection) → AreAlike (row_under c) (renaming old new made c).rows
renaming_alike old new made c =
    let moved : Edit = with_rows_mapped (renamed old new) (unedited c) in
    alike_through (row_under c) moved.rows (with_decks made moved).rows (mapped_alike (row_under c) (renamed old new) (renamed_shape old new)) (decks_alike made moved)

using_shape : (options : ℤ) (row : Row) → shape (Some (using_options options row)) ≡ shape (Some row)
using_shape options (rows.Deck x) = refl
using_shape options (rows.Note x) = refl
using_shape options (rows.Card x) = refl
using_shape options (rows.Review x) = refl
using_shape options (rows.NoteType x) = refl
using_shape options (rows.Options x) = refl
using_shape options (rows.Grave x) = refl

using_name : (options : ℤ) (row : Row) → name_of (using_options options row) ≡ name_of row
using_name options (rows.Deck x) = refl
using_name options (rows.Note x) = refl
using_name options (rows.Card x) = refl
using_name options (rows.Review x) = refl
using_name options (rows.NoteType x) = refl
using_name options (rows.Options x) = refl
using_name options (rows.Grave x) = refl

pub options_use_alike : (options deck : ℤ) (c : Collection) → AreNamed (row_under c) → AreAlike (row_under c) (options_use options deck c).rows
options_use_alike options deck c named = by (row_under c (name_in tables.Deck deck)) refl
  where
    by : (x : Option Row) → row_under c (name_in tables.Deck deck) ≡ x → AreAlike (row_under c) (option_map_or (λ (row : Row). row_edit (using_options options row) c) x (unedited c)).rows
    by None is = alike_itself (row_under c)
    by (Some row) is =
        let own : name_of (using_options options row) ≡ name_in tables.Deck deck = using_name options row ∙ named (name_in tables.Deck deck) row is in
        row_alike (using_options options row) (unedited c) (ap (λ (n : Name). shape (row_under c n)) own ∙ ap shape is ∙ sym (using_shape options row))

-- a group of options that is put
pub group_alike : (group : Options) (c : Collection) → AreAlike (row_under c) (row_edit (rows.Options group) c).rows
group_alike group c = record { card = λ id. refl; note = λ id. refl; type = λ id. refl }

default_shape : (row : Row) → shape (Some (with_default row)) ≡ shape (Some row)
default_shape (rows.Deck x) = refl
default_shape (rows.Note x) = refl
default_shape (rows.Card x) = refl
default_shape (rows.Review x) = refl
default_shape (rows.NoteType x) = refl
default_shape (rows.Options x) = refl
default_shape (rows.Grave x) = refl

shape_if : (b : Bool) (x y : Row) → shape (Some x) ≡ shape (Some y) → shape (Some (cond b x y)) ≡ shape (Some y)
shape_if true x y same = same
shape_if false x y same = refl

pub options_deletion_alike : (options : ℤ) (c : Collection) → AreAlike (row_under c) (options_deletion options c).rows
options_deletion_alike options c =
    let without : AreAlike (row_under c) (with_rows_mapped (without_options options) (unedited c)).rows =
    mapped_alike (row_under c) (without_options options) (λ row. shape_if (has_options options row) (with_default row) row (default_shape row)) in
    record { card = without.card; note = without.note; type = without.type }

-- ---- the day
unburied_shape : (row : Row) → shape (Some (unburied_row row)) ≡ shape (Some row)
unburied_shape (rows.Card card) = unburied_place card
unburied_shape (rows.Note x) = refl
unburied_shape (rows.Review x) = refl
unburied_shape (rows.NoteType x) = refl
unburied_shape (rows.Deck x) = refl
unburied_shape (rows.Options x) = refl
unburied_shape (rows.Grave x) = refl

pub day_alike : (day : Day) (c : Collection) → AreAlike (row_under c) (day_start day c).rows
day_alike day c =
    elim (is_new_day day c.head.conf) as (λ (b : Bool). AreAlike (row_under c) (cond b (with_conf (begun_on day c.head.conf) (with_rows_mapped unburied_row (unedited c))) (unedited c)).rows) [
      | true ↦ mapped_alike (row_under c) unburied_row unburied_shape
      | false ↦ alike_itself (row_under c)
    ]

-- ---- answers
pub found_card : (x : Option Row) (card : Card) → option_and_then as_card x ≡ Some card → x ≡ Some (rows.Card card)
found_card None card is = none_held is
found_card (Some (rows.Card y)) card is = ap (λ (z : Card). Some (rows.Card z)) (same_Some y card is)
found_card (Some (rows.Note y)) card is = none_held is
found_card (Some (rows.NoteType y)) card is = none_held is
found_card (Some (rows.Review y)) card is = none_held is
found_card (Some (rows.Deck y)) card is = none_held is
found_card (Some (rows.Options y)) card is = none_held is
found_card (Some (rows.Grave y)) card is = none_held is

note_if : (b : Bool) (x y : Note) → shape (Some (rows.Note x)) ≡ shape (Some (rows.Note y)) → shape (Some (rows.Note (cond b x y))) ≡ shape (Some (rows.Note y))
note_if true x y same = same
note_if false x y same = refl

review_alike : (review : Review) (edit : Edit) → AreAlike edit.rows (with_row (rows.Review review) edit).rows
review_alike review edit = record { card = λ id. refl; note = λ id. refl; type = λ id. refl }

module _ (at : ℤ) (given : CardAnswer) (c : Collection) (before now : Keeping) (steps left : List Step) (made : Card) (done : IsAnswered at given c before now steps left made) where
  -- the rows once the day has started
  abbrev begun : Edit
  begun = day_start done.day c

  begun_named : AreNamed begun.rows
  begun_named = (day_starts_are_admitted done.day c done.finished.named).named

  -- of a row that the day's start leaves under a name
  answered_shape : (name : Name) (row : Row) → begun.rows name ≡ Some row → shape (Some (row_answered done.day done.answering c.rows row)) ≡ shape (Some row)
  answered_shape name (rows.Card card) there =
      elim (int_eq card.id done.answering.was.id) as (λ (b : Bool). int_eq card.id done.answering.was.id ≡ b
      → shape (Some (rows.Card (cond b done.answering.made (sibling_after done.answering.was done.answering.options done.day card)))) ≡ shape (Some (rows.Card card))) [
        | true ↦ λ same.
            let was : begun.rows (name_in tables.Card given.card) ≡ Some (rows.Card done.answering.was) = found_card (begun.rows (name_in tables.Card given.card)) done.answering.was done.is_answering.card in
            let id : name_in tables.Card done.answering.was.id ≡ name_in tables.Card given.card = begun_named (name_in tables.Card given.card) (rows.Card done.answering.was) was in
            let here : name ≡ name_in tables.Card given.card = sym (begun_named name (rows.Card card) there) ∙ ap (name_in tables.Card) ((Decides-int_eq card.id done.answering.was.id).0 same) ∙ id in
            ap (λ (m : Card). shape (Some (rows.Card m))) done.is_answering.scheduled.card ∙ ap shape (sym was ∙ ap begun.rows (sym here) ∙ there)
        | false ↦ λ _. place_if (is_buried_by done.answering.was done.answering.options done.day card) (queued (negsuc 1) card) card card refl refl
      ] refl
  answered_shape name (rows.Note note) there = note_if (done.answering.answered.leech && int_eq note.id done.answering.was.nid) (leech_tagged note) note refl
  answered_shape name (rows.Deck x) there = refl
  answered_shape name (rows.Review x) there = refl
  answered_shape name (rows.NoteType x) there = refl
  answered_shape name (rows.Options x) there = refl
  answered_shape name (rows.Grave x) there = refl

  pub answer_alike : AreAlike (row_under c) (answer_edit done.day done.answering c).rows
  answer_alike =
      let answered : Edit = with_rows_mapped (row_answered done.day done.answering c.rows) begun in
      alike_through (row_under c) begun.rows (answer_edit done.day done.answering c).rows (day_alike done.day c)
      (alike_through begun.rows answered.rows (answer_edit done.day done.answering c).rows (mapped_held begun.rows (row_answered done.day done.answering c.rows) answered_shape)
      (review_alike done.answering.answered.review answered))

pub early_alike : (at : ℤ) (given : CardAnswer) (day : Day) (c : Collection) (made : Card) (review : Review) → AreNamed (row_under c) → IsEarly at given day c made review
    → AreAlike (row_under c) (early_edit made review c).rows
early_alike at given day c made review named is =
    let was : row_under c (name_in tables.Card given.card) ≡ Some (rows.Card is.was) = found_card (row_under c (name_in tables.Card given.card)) is.was is.is_held in
    let own : name_in tables.Card is.was.id ≡ name_in tables.Card given.card = named (name_in tables.Card given.card) (rows.Card is.was) was in
    let shaped : shape (Some (rows.Card made)) ≡ shape (Some (rows.Card is.was)) = ap (λ (m : Card). shape (Some (rows.Card m))) is.card ∙ home_place (filtered_at c.rows) is.was in
    let id : made.id ≡ is.was.id = ap (λ (p : ℤ × ℤ × ℤ). p.0) (same_Some {A = ℤ × ℤ × ℤ} (made.id, made.nid, made.ord) (is.was.id, is.was.nid, is.was.ord) (ap (λ (s : Shape). s.card) shaped)) in
    let there : row_under c (name_in tables.Card made.id) ≡ Some (rows.Card is.was) = ap (λ (i : ℤ). row_under c (name_in tables.Card i)) id ∙ ap (row_under c) own ∙ was in
    alike_through (row_under c) (with_row (rows.Card made) (unedited c)).rows (early_edit made review c).rows (row_alike (rows.Card made) (unedited c) (ap shape there ∙ sym shaped))
    (review_alike review (with_row (rows.Card made) (unedited c)))
