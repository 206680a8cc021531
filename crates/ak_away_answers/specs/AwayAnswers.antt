-- The answer of any card: of one that is at home as ever, and of one that is away.
use Rattle.std.specs.Prelude.{◌≡◌, ◌⊎◌, ℤ, pos, Bool, true, false, ◌&&◌, ◌||◌, List, [], ◌∷◌, Some, Result, IfErr, IfOk, OnErr, OnOk, Err}
use Rattle.std.specs.Ordering.{int_eq}
use Rattle.ak_base.specs.Days.{IsDayOf}
use Rattle.ak_base.specs.declared.cards.Card.{Card}
use Rattle.ak_base.specs.declared.days.Day.{Day}
use Rattle.ak_edit.specs.Ends.{RefusesStamp}
use Rattle.ak_edit.specs.Refusals.{AnswersBy, IsFromOutside, Refusal}
use Rattle.ak_edit.specs.declared.desk_faults.DeskFault.{DeskFault}
use Rattle.ak_edit.specs.declared.desk_faults.DeskFault.TheVariants as faults
use Rattle.ak_filtered.specs.ClearedEdits.{IsCleared}
use Rattle.ak_away_answers.specs.EarlyAnswers.{IsEarlyAnswered, RefusesEarly, is_early}
use Rattle.ak_filtered.specs.HomeDecks.{is_away, is_away_at, sending_home}
use Rattle.ak_keep.specs.Collections.{Collection}
use Rattle.ak_keep.specs.Keepers.{Keeping}
use Rattle.ak_keep.specs.Lookups.{card_at}
use Rattle.ak_study.specs.Answers.{IsAnswered, RefusesAnswer, RefusesReview}
use Rattle.ak_study.specs.declared.answers.CardAnswer.{CardAnswer}
use Rattle.ak_undo.specs.declared.steps.Step.{Step}

-- ---- which cards
-- whether a card that is away can be answered: a new one in queue 0, or a review in queue 2
abbrev pub can_answer_away : Card → Bool
can_answer_away card = (int_eq card.queue (pos 0) && int_eq card.kind (pos 0)) || (int_eq card.queue (pos 2) && int_eq card.kind (pos 2))

-- a card that is away can't be answered
abbrev pub RefusesAway : Card → Refusal
RefusesAway card fault = (can_answer_away card ≡ false) × (fault ≡ faults.NotAnswerable card.queue)

-- the card of this id is held and away, and it can be answered
pub record CanBeAnsweredAway (c : Collection) (id : ℤ) (card : Card) : Type 0 where
  pub held : card_at c.rows id ≡ Some card
  pub away : is_away card ≡ true
  pub can : can_answer_away card ≡ true

-- ---- how an answer ends
-- it was refused with this fault, and all is as it was
pub record IsRefusedAsWas (before now : Keeping) (steps left : List Step) (result : Result Card DeskFault) (tests : Refusal) : Type 0 where
  pub fault : DeskFault
  pub refused : result ≡ Err fault
  pub tested : tests fault
  pub same : now ≡ before
  pub kept : left ≡ steps

-- the answer of a card at home: done, or refused and all is as it was
pub record EndsAnswer (at : ℤ) (given : CardAnswer) (c : Collection) (before now : Keeping) (steps left : List Step) (result : Result Card DeskFault) : Type 0 where
  pub done : IfOk result (IsAnswered at given c before now steps left)
  pub same : OnErr result (now ≡ before)
  pub kept : OnErr result (left ≡ steps)
  pub answers : AnswersBy (RefusesAnswer at given c) result

-- an early answer: one edit, which clears the undo list; refused, all is as it was
pub record EndsEarly (at : ℤ) (given : CardAnswer) (day : Day) (c : Collection) (before now : Keeping) (steps left : List Step) (result : Result Card DeskFault) : Type 0 where
  pub done : IfOk result (IsEarlyAnswered at given day c before now left)
  pub same : OnErr result (now ≡ before)
  pub kept : OnErr result (left ≡ steps)
  -- an answer that is accepted has an id for its review; `done` says that the other tests do not hold
  pub accepted : OnOk result ((fault : DeskFault) → RefusesReview at c fault → ⊥)
  pub refused : IfErr result (λ fault. IsFromOutside fault ⊎ RefusesEarly at given day c fault)

-- the card went home first, in an edit of its own that stays and clears the undo list, and was answered there as ever: if that was
-- refused, the card is at home and all else is as it was
pub record EndsFromHome (at : ℤ) (given : CardAnswer) (c : Collection) (before now : Keeping) (left : List Step) (result : Result Card DeskFault) : Type 0 where
  pub between : Keeping
  pub passes : (fault : DeskFault) → RefusesStamp at c (sending_home (given.card ∷ []) c) fault → ⊥
  pub home : IsCleared at c (sending_home (given.card ∷ []) c) before between []
  pub ends : EndsAnswer at given home.after between now [] left result

-- the answer of a card that is away and can be answered, on this day: early; or from home, unless the edit that sends it home
-- is refused
abbrev pub EndsAway : ℤ → CardAnswer → Day → Card → Collection → Keeping → Keeping → List Step → List Step → Result Card DeskFault → Type 0
EndsAway at given day card c before now steps left result =
    ((is_early day given.button card ≡ true) × EndsEarly at given day c before now steps left result)
    ⊎ ((is_early day given.button card ≡ false)
    × (IsRefusedAsWas before now steps left result (λ fault. IsFromOutside fault ⊎ RefusesStamp at c (sending_home (given.card ∷ []) c) fault)
    ⊎ EndsFromHome at given c before now left result))

-- the answer of any card: the keeper failed or memory was out, before anything was done; the card is held and away, and can't be
-- answered, or ends so; or it is not away
abbrev pub EndsAnyAnswer : ℤ → CardAnswer → Collection → Keeping → Keeping → List Step → List Step → Result Card DeskFault → Type 0
EndsAnyAnswer at given c before now steps left result =
    IsRefusedAsWas before now steps left result IsFromOutside
    ⊎ ((card : Card) × (card_at c.rows given.card ≡ Some card) × (is_away card ≡ true) × IsRefusedAsWas before now steps left result (RefusesAway card))
    ⊎ ((card : Card) × CanBeAnsweredAway c given.card card
    × (day : Day) × IsDayOf c.head.crt at day × EndsAway at given day card c before now steps left result)
    ⊎ ((is_away_at c.rows given.card ≡ false) × EndsAnswer at given c before now steps left result)
