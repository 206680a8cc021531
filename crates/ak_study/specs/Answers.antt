-- An answer of a card: what it makes of the collection, and why it is refused.
use Rattle.std.specs.Prelude.{◌≡◌, ◌⊎◌, ◌≤◌, ℕ, ℤ, pos, false, ◌&&◌, not, if◌then◌else◌, is_some, List, [], ◌∷◌, Option, Some, None, option_and_then}
use Rattle.std.specs.Option.{option_map_or}
use Rattle.std.specs.Ordering.{int_eq}
use Rattle.ak_base.specs.Days.{IsDayOf}
use Rattle.ak_base.specs.OptionGroups.{AreOpeningOptions}
use Rattle.ak_base.specs.RowsOfOneKind.{on_card, on_deck, on_note}
use Rattle.ak_base.specs.declared.cards.Card.{Card}
use Rattle.ak_base.specs.declared.days.Day.{Day}
use Rattle.ak_base.specs.declared.decks.Deck.{Deck}
use Rattle.ak_base.specs.declared.names.Table.TheVariants as tables
use Rattle.ak_base.specs.declared.notes.Note.{Note}
use Rattle.ak_base.specs.declared.option_groups.Options.{Options}
use Rattle.ak_base.specs.declared.rows.Row.{Row}
use Rattle.ak_base.specs.declared.rows.Row.TheVariants as rows
use Rattle.ak_edit_calls.specs.Calls.{RefusesAbsent}
use Rattle.ak_edit.specs.Ends.{IsFinished, RefusesEnd}
use Rattle.ak_keep.specs.FreeNames.{IsFirstFree, is_used}
use Rattle.ak_edit_calls.specs.NewNames.{first_name}
use Rattle.ak_edit.specs.Overlays.{Overlay, put_over, tag_over}
use Rattle.ak_edit.specs.Views.{rows_over}
use Rattle.ak_edit.specs.Refusals.{IsEndFault, OrElse, Refusal}
use Rattle.ak_edit.specs.declared.desk_faults.DeskFault.{DeskFault}
use Rattle.ak_edit.specs.declared.desk_faults.DeskFault.TheVariants as faults
use Rattle.ak_keep.specs.Collections.{Collection, Rows, rows_past}
use Rattle.ak_keep.specs.Keepers.{Keeping, WhereHeld}
use Rattle.ak_keep.specs.Lookups.{as_card, deck_of_card, note_at, options_of_card}
use Rattle.ak_merge.specs.EditBuilding.{with_row, with_rows_mapped, with_tags}
use Rattle.ak_merge.specs.Edits.{Edit}
use Rattle.ak_merge.specs.Holdings.{name_in, row_under}
use Rattle.std.specs.FinMap.{get}
use Rattle.ak_queue.specs.Burials.{bury_list}
use Rattle.ak_sched.specs.Answers.{IsAnswer, can_answer}
use Rattle.ak_study.specs.DayStarts.{OnDay, day_start}
use Rattle.ak_study.specs.DeckCounts.{counted_row, deck_answered}
use Rattle.ak_study.specs.LeechTags.{leech_tag, leech_tagged}
use Rattle.ak_study.specs.RowChanges.{put_rows_changed}
use Rattle.ak_study.specs.Siblings.{put_siblings, sibling_after}
use Rattle.ak_study.specs.declared.answerings.Answering.{Answering}
use Rattle.ak_study.specs.declared.answers.CardAnswer.{CardAnswer}
use Rattle.ak_undo.specs.declared.steps.Step.{Step}

-- the buttons: 1 Again, 2 Hard, 3 Good, 4 Easy
pub record IsButton (button : ℕ) : Type 0 where
  pub low : 1 ≤ button
  pub high : button ≤ 4

-- ---- what is read
-- the card of an id as the day's start leaves it
abbrev pub card_on : Day → Collection → ℤ → Option Card
card_on day c id = option_and_then as_card ((day_start day c).rows (name_in tables.Card id))

-- these options if they are held, and those that a collection opens with if not
abbrev pub AreThese : Option Options → Options → Type 0
AreThese None options = AreOpeningOptions (pos 0) options
AreThese (Some own) options = options ≡ own

-- the options of a card, and those that a collection opens with if none are held
abbrev pub AreOptionsFor : Rows → Card → Options → Type 0
AreOptionsFor held card options = AreThese (options_of_card held card) options

-- the answer of the card on this day: its options are those of the card, its review has the least free id from the moment on,
-- and the card after it and the review are the scheduler's
pub record IsAnswering (at : ℤ) (day : Day) (given : CardAnswer) (c : Collection) (a : Answering) : Type 0 where
  pub card : card_on day c given.card ≡ Some a.was
  pub options : AreOptionsFor c.rows a.was a.options
  pub review : IsFirstFree (is_used (row_under c)) (first_name tables.Review at) (Some (name_in tables.Review a.answered.review.id))
  pub scheduled : IsAnswer a.was a.options given.button day given.word given.taken a.answered.review.id a.made a.answered

-- ---- the rule
-- a card after the answer: the one that was answered as the scheduler makes it, and its siblings buried
abbrev pub card_answered : Day → Answering → Card → Card
card_answered day a card = if int_eq card.id a.was.id then a.made else sibling_after a.was a.options day card

-- a note after the answer: that of a leech has the tag
abbrev pub note_answered : Answering → Note → Note
note_answered a note = if a.answered.leech && int_eq note.id a.was.nid then leech_tagged note else note

-- a row after the answer, by the rows that were held: the card's deck and those above it count the answer by the queue that the card was
-- in
abbrev pub row_answered : Day → Answering → Rows → Row → Row
row_answered day a held row =
    on_card (card_answered day a) (on_note (note_answered a) (on_deck (deck_answered day a.was.queue (deck_of_card held a.was)) row))

-- the tags that come: that of a leech whose note is held
abbrev pub tags_answered : Answering → Rows → List (List ℕ)
tags_answered a held = if a.answered.leech && is_some (note_at held a.was.nid) then leech_tag ∷ [] else []

-- the edit that starts the day and answers a card
abbrev pub answer_edit : Day → Answering → Collection → Edit
answer_edit day a c =
    with_tags (tags_answered a c.rows)
    (with_row (rows.Review a.answered.review) (with_rows_mapped (row_answered day a c.rows) (day_start day c)))

-- a card of the collection that was held was answered at this moment: the keeper holds what the edit leaves, and the undo list
-- has its step. The card that is told is the scheduler's
pub record IsAnswered (at : ℤ) (given : CardAnswer) (c : Collection) (before now : Keeping) (steps left : List Step) (made : Card) : Type 0 where
  pub day : Day
  pub is_day : IsDayOf c.head.crt at day
  pub answering : Answering
  pub is_answering : IsAnswering at day given c answering
  pub card : made ≡ answering.made
  pub finished : IsFinished at c (answer_edit day answering c) before now steps left

-- the same, where a collection is told
abbrev pub Answers : ℤ → CardAnswer → Keeping → Keeping → List Step → List Step → Card → Type 0
Answers at given before now steps left made = WhereHeld before (λ c. IsAnswered at given c before now steps left made)

-- ---- refusals
-- the card can't be answered as the day's start leaves it
abbrev pub RefusesCard : ℤ → Collection → Day → Refusal
RefusesCard id c day fault =
    (card : Card) × (card_on day c id ≡ Some card) × (can_answer card ≡ false) × (fault ≡ faults.NotAnswerable card.queue)

-- there is no free id for the review from the moment on
abbrev pub RefusesReview : ℤ → Collection → Refusal
RefusesReview at c fault = IsFirstFree (is_used (row_under c)) (first_name tables.Review at) None × (fault ≡ faults.IdEnd)

-- a row that the answer makes does not pass its check, or a stamp or the moment ends
abbrev pub RefusesMade : ℤ → CardAnswer → Collection → Day → Refusal
RefusesMade at given c day fault = (a : Answering) × IsAnswering at day given c a × RefusesEnd at c (answer_edit day a c) fault

-- the tests of an answer before anything is made: the card is not held, it can't be answered, or there is no id for its review
abbrev pub RefusesAsked : ℤ → ℤ → Collection → Refusal
RefusesAsked at id c =
    OrElse (RefusesAbsent (row_under c) (name_in tables.Card id)) (OrElse (OnDay at c (RefusesCard id c)) (RefusesReview at c))

-- the tests of an answer: those before anything is made; then a row that is made does not pass its check, or a stamp or the moment
-- ends
abbrev pub RefusesAnswer : ℤ → CardAnswer → Collection → Refusal
RefusesAnswer at given c = OrElse (RefusesAsked at given.card c) (OnDay at c (RefusesMade at given c))

-- a card is not held or can't be answered
abbrev pub IsCardFault : ℤ → DeskFault → Type 0
IsCardFault id fault = (fault ≡ faults.NoSuch (name_in tables.Card id)) ⊎ ((queue : ℤ) × (fault ≡ faults.NotAnswerable queue))

-- the same, or there is no id for the review
abbrev pub IsAskedFault : ℤ → DeskFault → Type 0
IsAskedFault id fault = IsCardFault id fault ⊎ (fault ≡ faults.IdEnd)

-- what an answer may be refused by
abbrev pub IsAnswerFault : ℤ → DeskFault → Type 0
IsAnswerFault id fault = IsAskedFault id fault ⊎ IsEndFault fault

-- ---- the changes that are made for it
-- the note of a leech was put with the tag, and the tag came
abbrev pub leech_put : Rows → Answering → Overlay → Overlay
leech_put held a o =
    if a.answered.leech then option_map_or (λ (note : Note). tag_over leech_tag (put_over (rows.Note (leech_tagged note)) o)) (note_at held a.was.nid) o
    else o

-- the decks that count the answer were put
abbrev pub counts_put : Day → Rows → Card → Overlay → Overlay
counts_put day held was o =
    if not (int_eq was.queue (pos 0)) && not (int_eq was.queue (pos 2)) then o
    else option_map_or (λ (home : Deck). put_rows_changed (counted_row day was.queue home) (rows_past tables.Deck (pos 0) held) o) (deck_of_card held was) o

-- all that an answer changes besides the day's start was put, over what the edit has so far
abbrev pub answer_put : Day → Rows → Answering → Overlay → Overlay
answer_put day held a o =
    leech_put held a
    (counts_put day held a.was
    (put_over (rows.Review a.answered.review)
    (put_over (rows.Card a.made)
    (put_siblings (get held) (bury_list (rows_over o held) a.was a.options day) o))))
