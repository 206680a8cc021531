-- How the answer of a card that is away is made.
use Rattle.std.specs.Prelude.{◌≡◌, ◌⊎◌, ℤ, true, false, List, [], ◌∷◌, Option, Some, None, Result}
use Rattle.ak_base.specs.Days.{IsDayOf}
use Rattle.ak_base.specs.declared.cards.Card.{Card}
use Rattle.ak_base.specs.declared.heads.Head.{Head}
use Rattle.ak_edit.specs.Ends.{RefusesStamp}
use Rattle.ak_edit.specs.Refusals.{IsFromOutside}
use Rattle.ak_edit.specs.declared.desk_faults.DeskFault.{DeskFault}
use Rattle.ak_away_answers.specs.AwayAnswers.{EndsFromHome, IsRefusedAsWas}
use Rattle.ak_filtered.specs.Building.{IsDayRead}
use Rattle.ak_filtered.specs.HomeDecks.{is_away, is_away_at, is_some_away, sending_home}
use Rattle.ak_away_answers.specs.declared.early_answers.Asked.{Asked}
use Rattle.ak_keep.specs.Collections.{Collection, Holding}
use Rattle.ak_keep.specs.Keepers.{Keeping}
use Rattle.ak_keep.specs.Lookups.{card_at}
use Rattle.ak_study.specs.declared.answers.CardAnswer.{CardAnswer}
use Rattle.ak_undo.specs.declared.steps.Step.{Step}

-- the card of this id is held and away, and this is the day of the moment
pub record IsAskedOn (at : ℤ) (id : ℤ) (asked : Asked) (h : Holding) : Type 0 where
  pub held : card_at h.rows id ≡ Some asked.card
  pub away : is_away asked.card ≡ true
  pub is_day : IsDayRead at h asked.day

-- the same, or the card of this id is not held or is at home
abbrev pub IsAskedIfAway : ℤ → ℤ → Holding → Option Asked → Type 0
IsAskedIfAway at id h (Some asked) = IsAskedOn at id asked h
IsAskedIfAway at id h None = is_away_at h.rows id ≡ false

-- how an answer ended that sends the card home first, if it is away
abbrev pub EndsSentHome : ℤ → CardAnswer → Collection → Keeping → Keeping → List Step → List Step → Result Card DeskFault → Type 0
EndsSentHome at given c before now steps left result =
    is_some_away c.rows (given.card ∷ []) ≡ true →
    IsRefusedAsWas before now steps left result (λ fault. IsFromOutside fault ⊎ RefusesStamp at c (sending_home (given.card ∷ []) c) fault)
    ⊎ EndsFromHome at given c before now left result
