-- What a line comes to, whatever it says.
use Rattle.std.specs.List.{All}
use Rattle.std.specs.Prelude.{◌≡◌, ◌⊎◌, ℤ, List}
use Rattle.ak_desk_lines.specs.DeskStates.{DeskState}
use Rattle.ak_edit.specs.Ends.{IsFinished}
use Rattle.ak_edit.specs.Steps.{reversals_in}
use Rattle.ak_edit.specs.Undos.{IsLatestUndone}
use Rattle.ak_keep.specs.Collections.{Collection}
use Rattle.ak_keep.specs.Keepers.{WhereHeld}
use Rattle.ak_merge.specs.Edits.{Admits, Edit}
use Rattle.ak_merge.specs.Links.{AreLinked}
use Rattle.ak_merge.specs.Undoing.{StepFits}
use Rattle.ak_undo.specs.declared.steps.Step.{Step}

-- all is as it was, or one edit was done that a collection admits, or the latest step was undone
abbrev pub IsOneStep : ℤ → Collection → DeskState → DeskState → Type 0
IsOneStep at c before after =
    (after ≡ before)
    ⊎ ((edit : Edit) × Admits c edit × IsFinished at c edit before.keeping after.keeping before.steps after.steps)
    ⊎ IsLatestUndone at c before.keeping after.keeping before.steps after.steps

-- a collection is linked with one of a server, and each step of its undo list fits that
pub record LinksWith (c : Collection) (steps : List Step) (s : Collection) : Type 0 where
  pub linked : AreLinked c s
  pub fit : All (λ step. StepFits c step s) (reversals_in steps)

-- what is linked stays so, if the schema moment is the same
abbrev pub KeepsLinks : Collection → DeskState → DeskState → Type 0
KeepsLinks c before after =
    (s : Collection) → LinksWith c before.steps s
    → WhereHeld after.keeping (λ d. d.head.schema ≡ c.head.schema → LinksWith d after.steps s)
