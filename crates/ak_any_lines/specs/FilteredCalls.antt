-- How the calls on filtered decks end at a desk.
use Rattle.std.specs.Prelude.{◌≡◌, ℕ, ℤ, Result, IfErr, IfOk, OnErr}
use Rattle.ak_away_answers.specs.AwayAnswers.{EndsAnyAnswer}
use Rattle.ak_base.specs.declared.cards.Card.{Card}
use Rattle.ak_desk_lines.specs.DeskStates.{DeskState}
use Rattle.ak_edit.specs.declared.desk_faults.DeskFault.{DeskFault}
use Rattle.ak_filtered.specs.Building.{IsBuildFault}
use Rattle.ak_filtered.specs.Builds.{IsBuilt, RefusesBuilding, RefusesToBuild}
use Rattle.ak_filtered.specs.EmptyFaults.{IsEmptyFault}
use Rattle.ak_filtered.specs.Emptyings.{IsEmptied, RefusesToEmpty}
use Rattle.ak_filtered.specs.FilteredFaults.{TellsBy, TellsToEnd}
use Rattle.ak_filtered.specs.MadeDecks.{IsMade, RefusesMaking, RefusesToMake}
use Rattle.ak_filtered.specs.MakingFaults.{IsMakingFault}
use Rattle.ak_filtered.specs.declared.deck_makings.NewFiltered.{NewFiltered}
use Rattle.ak_filtered.specs.declared.faults.FilteredFault.{FilteredFault}
use Rattle.ak_keep.specs.Collections.{Collection}
use Rattle.ak_keep.specs.Keepers.{WhereHeld}
use Rattle.ak_study.specs.Answers.{IsAnswerFault}
use Rattle.ak_study.specs.declared.answers.CardAnswer.{CardAnswer}

-- how a call on filtered decks ended, by the desk before and after it: this was done, or it was refused and all is as it was. The
-- answer is that of its tests
pub record EndsCall {T : Type 0} (IsDone : Collection → T → Type 0)
    (Tells : Collection → Result T FilteredFault → Type 0) (May : FilteredFault → Type 0)
    (before after : DeskState) (made : Result T FilteredFault) : Type 0 where
  pub done : IfOk made (λ value. WhereHeld before.keeping (λ c. IsDone c value))
  pub left : OnErr made (after ≡ before)
  pub tests : WhereHeld before.keeping (λ c. Tells c made)
  -- what it may be refused by, told or not
  pub listed : IfErr made May
  -- whether a head is held, and whether there is a mark, stays, told or not
  pub stays : after.keeping.headed ≡ before.keeping.headed

-- the making of a filtered deck, which gives its id
abbrev pub EndsMaking : ℤ → NewFiltered → DeskState → DeskState → Result ℤ FilteredFault → Type 0
EndsMaking at given before after made =
    EndsCall (λ c id. IsMade at given c before.keeping after.keeping after.steps id)
    (λ c made. TellsToEnd (RefusesToMake at given c.rows) (RefusesMaking at given c) made) IsMakingFault before after made

-- the building of one, which gives how many cards came
abbrev pub EndsBuilding : ℤ → ℤ → DeskState → DeskState → Result ℕ FilteredFault → Type 0
EndsBuilding at deck before after made =
    EndsCall (λ c count. IsBuilt at deck c before.keeping after.keeping after.steps count)
    (λ c made. TellsToEnd (RefusesToBuild deck c) (RefusesBuilding at deck c) made) (IsBuildFault deck) before after made

-- the emptying of one, which gives how many cards went
abbrev pub EndsEmptying : ℤ → ℤ → DeskState → DeskState → Result ℕ FilteredFault → Type 0
EndsEmptying at deck before after made =
    EndsCall (λ c count. IsEmptied at deck c before.keeping after.keeping after.steps count)
    (λ c made. TellsBy (RefusesToEmpty at deck c) made) (IsEmptyFault deck) before after made

-- how the answer of a card ended, at home or away
pub record EndsAnswering (at : ℤ) (given : CardAnswer) (before after : DeskState) (made : Result Card DeskFault) : Type 0 where
  pub ends : WhereHeld before.keeping (λ c. EndsAnyAnswer at given c before.keeping after.keeping before.steps after.steps made)
  pub listed : IfErr made (IsAnswerFault given.card)
  pub stays : after.keeping.headed ≡ before.keeping.headed
