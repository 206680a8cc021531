-- Edits that clear the undo list.
use Rattle.std.specs.Prelude.{◌≡◌, ℤ, List, []}
use Rattle.std.proofs.Common.{refl}
use Rattle.ak_edit.specs.Ends.{FinishedBy, IsFinished, IsHeldRightly}
use Rattle.ak_edit.specs.Overlays.{Overlay, edit_of}
use Rattle.ak_edit_calls.proofs.Telling.{where_held-both}
use Rattle.ak_filtered.specs.ClearedEdits.{ClearedBy, IsCleared}
use Rattle.ak_keep.specs.Collections.{Collection}
use Rattle.ak_keep.specs.Keepers.{Keeping, WhereHeld}
use Rattle.ak_merge.proofs.EditBuildingLaws.{edits_keep_all}
use Rattle.ak_merge.specs.Edits.{Admits, Edit}
use Rattle.ak_merge.specs.Undoing.{KeepsAll}
use Rattle.ak_undo.specs.declared.steps.Step.{Step}

pub finished_cleared : (k now : Keeping) (at : ℤ) (o : Overlay) (steps left cleared : List Step) → cleared ≡ [] → WhereHeld k IsHeldRightly → FinishedBy at o k now steps left → ClearedBy at o k now cleared
finished_cleared k now at o steps left cleared none =
    where_held-both k IsHeldRightly (λ c. IsFinished at c (edit_of o c) k now steps left) (λ c. IsCleared at c (edit_of o c) k now cleared)
    (λ c rightly is. record { rightly = rightly; after = is.after; edited = is.edited; held = is.held; list = none })

pub keeps_all : (at : ℤ) (c : Collection) (edit : Edit) (k l : Keeping) (left : List Step) → (is : IsCleared at c edit k l left) → Admits c edit → KeepsAll at c edit is.after
keeps_all at c edit k l left is admits = edits_keep_all at c is.after edit (record { admits = admits; leaves = is.edited }) is.rightly.named
