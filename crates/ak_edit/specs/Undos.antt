-- The undo of the latest step: what it leaves, and why it is refused.
use Rattle.std.specs.Prelude.{◌≡◌, ◌⊎◌, ℤ, pos, List, [], ◌∷◌, Some, Result}
use Rattle.ak_base.specs.Heads.{IsMoment, IsWithin}
use Rattle.ak_base.specs.Limits.{last_stamp}
use Rattle.ak_base.specs.declared.names.Name.{Name}
use Rattle.ak_base.specs.declared.rows.Row.{Row}
use Rattle.ak_keep.specs.Collections.{Collection}
use Rattle.ak_keep.specs.Keepers.{Keeping, WhereHeld}
use Rattle.ak_merge.specs.Edits.{Reversal, advanced, second_of}
use Rattle.ak_merge.specs.Holdings.{AreNamed, IsSingle, row_under}
use Rattle.ak_merge.specs.Links.{AreLinked}
use Rattle.ak_merge.specs.Undoing.{IsUndone, StepFits, StepsSuit, undone_stamp}
use Rattle.ak_undo.specs.declared.steps.Step.{Step}
use Rattle.ak_edit.specs.Ends.{holding_now}
use Rattle.ak_edit.specs.Refusals.{AnswersBy, OrElse, Refusal}
use Rattle.ak_edit.specs.Steps.{reversal_in, reversals_in}
use Rattle.ak_edit.specs.declared.desk_faults.DeskFault.{DeskFault}
use Rattle.ak_edit.specs.declared.desk_faults.DeskFault.TheVariants as faults

-- the latest step was undone over c at this moment: the keeper holds what the undo leaves, and the step is gone
pub record IsLatestUndone (at : ℤ) (c : Collection) (before now : Keeping) (steps left : List Step) : Type 0 where
  -- each row of c stands under its name
  pub named : AreNamed (row_under c)
  pub step : Step
  pub list : steps ≡ step ∷ left
  pub after : Collection
  pub undone : IsUndone at c (reversal_in step) after
  pub held : now ≡ holding_now after before

-- the same where a collection is told
abbrev pub UndoneBy : ℤ → Keeping → Keeping → List Step → List Step → Type 0
UndoneBy at before now steps left = WhereHeld before (λ c. IsLatestUndone at c before now steps left)

-- the undo list suits what a collection holds
abbrev pub SuitsNow : List Step → Collection → Type 0
SuitsNow steps c = StepsSuit (reversals_in steps) (row_under c) c.head.tags

-- what an undo of the latest step keeps: names, that no row stands beside its grave, links with each collection of a
-- server that the step fits, that other steps fit, and that the undo list without the step suits what is left
pub record UndoKeepsAll (c : Collection) (step : Step) (left : List Step) (after : Collection) : Type 0 where
  pub named : AreNamed (row_under after)
  pub single : IsSingle (row_under after)
  pub linked : (s : Collection) → StepFits c (reversal_in step) s → AreLinked c s → AreLinked after s
  pub older : (s : Collection) (other : Reversal) → StepFits c other s → StepFits after other s
  pub suits : SuitsNow left after

-- the stamp of a row that the step puts back, or the moment, has no value left to rise to, or is past its last value
-- since now is
abbrev pub IsUndoAtLastStamp : ℤ → Collection → Step → Type 0
IsUndoAtLastStamp at c step =
    ((name : Name) × (before : Row) × ((reversal_in step).rows name ≡ Some (Some before))
    × (IsWithin (pos 0) last_stamp (undone_stamp (second_of at) before (row_under c name)) → ⊥))
    ⊎ (IsMoment (advanced at c.head.moment) → ⊥)

-- there is no step
abbrev pub RefusesNone : List Step → Refusal
RefusesNone steps fault = (fault ≡ faults.NothingToUndo) × (steps ≡ [])

-- a stamp or the moment ends
abbrev pub RefusesUndoStamp : ℤ → Collection → List Step → Refusal
RefusesUndoStamp at c [] fault = ⊥
RefusesUndoStamp at c (step ∷ steps) fault = (fault ≡ faults.StampEnd) × IsUndoAtLastStamp at c step

-- the tests of an undo
abbrev pub RefusesUndo : ℤ → Collection → List Step → Refusal
RefusesUndo at c steps = OrElse (RefusesNone steps) (RefusesUndoStamp at c steps)

-- the answer of an undo, where a collection is told
abbrev pub AnswersUndo : {T : Type 0} → ℤ → Keeping → List Step → Result T DeskFault → Type 0
AnswersUndo at before steps result = WhereHeld before (λ c. AnswersBy (RefusesUndo at c steps) result)
