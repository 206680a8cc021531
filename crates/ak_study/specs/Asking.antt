-- How an answer is made: the card is asked for, and then an edit is filled.
use Rattle.std.specs.Prelude.{◌≡◌, ℤ, false, IsTrue, Option, Some}
use Rattle.std.specs.FinMap.{get}
use Rattle.std.specs.Option.{option_map}
use Rattle.ak_base.specs.Cards.{IsCheckedCard}
use Rattle.ak_base.specs.Days.{IsDay}
use Rattle.ak_base.specs.declared.cards.Card.{Card}
use Rattle.ak_base.specs.declared.names.Name.{Name}
use Rattle.ak_base.specs.declared.names.Table.TheVariants as tables
use Rattle.ak_edit_calls.specs.Calls.{RefusesAbsent}
use Rattle.ak_keep.specs.FreeNames.{IsFirstFree, is_used}
use Rattle.ak_edit_calls.specs.NewNames.{first_name}
use Rattle.ak_edit.specs.Overlays.{unchanged}
use Rattle.ak_edit.specs.Refusals.{OrElse, Refusal}
use Rattle.ak_edit.specs.declared.desk_faults.DeskFault.TheVariants as faults
use Rattle.ak_keep.specs.Collections.{Holding, Rows}
use Rattle.ak_keep.specs.Lookups.{card_at}
use Rattle.ak_merge.specs.Holdings.{name_in}
use Rattle.ak_sched.specs.Answers.{IsSameButSchedule, can_answer}
use Rattle.ak_study.specs.Scheduling.{IsOnlyScheduled, IsScheduled}
use Rattle.ak_study.specs.Answers.{AreOptionsFor, answer_put}
use Rattle.ak_study.specs.DayStarts.{HasBegun, card_begun}
use Rattle.ak_study.specs.declared.answers.Asked.{Asked}
use Rattle.ak_study.specs.declared.answers.CardAnswer.{CardAnswer}
use Rattle.ak_study.specs.declared.answers.Filled.{Filled}
use Rattle.ak_study.specs.declared.answers.Prepared.{Prepared}
use Rattle.ak_study.specs.declared.day_starts.Begun.{Begun}

-- the first free name of a review at a moment
abbrev pub IsReviewName : ℤ → Rows → Option Name → Type 0
IsReviewName at held = IsFirstFree (is_used (get held)) (first_name tables.Review at)

-- the day has begun in an edit that had changed nothing, and this is the free name
pub record IsPrepared (at : ℤ) (p : Prepared) (h : Holding) : Type 0 where
  pub begun : HasBegun at h p.begun unchanged p.change
  pub free : IsReviewName at h.rows p.free

-- the card as the day has begun, and the free id of its review
pub record IsAsked (at : ℤ) (id : ℤ) (asked : Asked) (h : Holding) : Type 0 where
  pub begun : HasBegun at h asked.begun unchanged asked.change
  pub card : option_map (card_begun asked.begun) (card_at h.rows id) ≡ Some asked.card
  pub review : IsReviewName at h.rows (Some (name_in tables.Review asked.review))

-- told or not, the scheduler can answer it
pub record IsAnswerable (asked : Asked) : Type 0 where
  pub can : IsTrue (can_answer asked.card)
  pub checked : IsCheckedCard asked.card
  pub day : IsDay asked.begun.day

-- the card is not held, or it can't be answered once the day has begun
abbrev pub RefusesBegun : Begun → ℤ → Rows → Refusal
RefusesBegun begun id held =
    OrElse (RefusesAbsent (get held) (name_in tables.Card id))
    (λ fault. (card : Card) × (option_map (card_begun begun) (card_at held id) ≡ Some card) × (can_answer card ≡ false) × (fault ≡ faults.NotAnswerable card.queue))

-- told or not, no other answer is one, and of the card the schedule alone changed
pub record IsOnly (given : CardAnswer) (filled : Filled) : Type 0 where
  pub only : IsOnlyScheduled given filled.begun.day filled.answering
  pub same : IsSameButSchedule filled.answering.was filled.answering.made

-- the edit of the card that was asked for
pub record IsFilledOf (asked : Asked) (given : CardAnswer) (filled : Filled) (h : Holding) : Type 0 where
  pub begun : filled.begun ≡ asked.begun
  pub was : filled.answering.was ≡ asked.card
  pub options : AreOptionsFor h.rows asked.card filled.answering.options
  pub id : filled.answering.answered.review.id ≡ asked.review
  pub scheduled : IsScheduled given asked.begun.day filled.answering
  pub changes : filled.change ≡ answer_put asked.begun.day h.rows filled.answering asked.change

-- the edit of the card that is held under the id
pub record IsFilled (at : ℤ) (given : CardAnswer) (filled : Filled) (h : Holding) : Type 0 where
  pub asked : Asked
  pub is_asked : IsAsked at given.card asked h
  pub is_filled : IsFilledOf asked given filled h
