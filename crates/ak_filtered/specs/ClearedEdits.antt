-- An edit that leaves no step: it clears the undo list.
use Rattle.std.specs.Prelude.{◌≡◌, ℤ, List, [], Result, OnErr, OnOk}
use Rattle.ak_edit.specs.Ends.{IsHeldRightly, holding_now}
use Rattle.ak_edit.specs.Overlays.{Overlay, edit_of}
use Rattle.ak_edit.specs.Refusals.{AnswersBy, Refusal}
use Rattle.ak_edit.specs.declared.desk_faults.DeskFault.{DeskFault}
use Rattle.ak_keep.specs.Collections.{Collection}
use Rattle.ak_keep.specs.Keepers.{Keeping, WhereHeld}
use Rattle.ak_merge.specs.Edits.{Edit, IsEdited}
use Rattle.ak_undo.specs.declared.steps.Step.{Step}

-- an edit of c was ended at this moment: the keeper holds what the edit leaves, and nothing can be undone
pub record IsCleared (at : ℤ) (c : Collection) (edit : Edit) (before now : Keeping) (left : List Step) : Type 0 where
  -- each row of c stands under its name and passes its check, and its head is in range
  pub rightly : IsHeldRightly c
  pub after : Collection
  pub edited : IsEdited at c edit after
  pub held : now ≡ holding_now after before
  pub list : left ≡ []

-- the same of the changes, where a collection is told
abbrev pub ClearedBy : ℤ → Overlay → Keeping → Keeping → List Step → Type 0
ClearedBy at o before now left = WhereHeld before (λ c. IsCleared at c (edit_of o c) before now left)

-- how a call ended that does this edit at this moment, and clears the undo list, if none of its tests refuses it: if it was
-- refused, all is as it was
pub record EndsCleared {T : Type 0} (at : ℤ) (rule : Collection → Edit) (tests : Collection → Refusal) (before now : Keeping) (steps left : List Step) (result : Result T DeskFault) : Type 0 where
  pub done : OnOk result (WhereHeld before (λ c. IsCleared at c (rule c) before now left))
  pub same : OnErr result (now ≡ before)
  pub kept : OnErr result (left ≡ steps)
  -- the list is cleared, told or not
  pub cleared : OnOk result (left ≡ [])
  -- whether a head is held stays, told or not
  pub stays : now.headed ≡ before.headed
  pub answers : WhereHeld before (λ c. AnswersBy (tests c) result)
