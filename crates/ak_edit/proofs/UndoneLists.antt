-- What an undo of the latest step keeps, said of the list of steps.
use Rattle.std.proofs.Common.{ℤ, List, ◌∷◌, ap, subst}
use Rattle.ak_keep.specs.Collections.{Collection}
use Rattle.ak_keep.specs.Keepers.{Keeping}
use Rattle.ak_merge.proofs.ReversalLists.{lists_suit_after_undo}
use Rattle.ak_merge.proofs.UndoingLaws.{steps_still_fit, undos_keep_links, undos_keep_names}
use Rattle.ak_merge.specs.Edits.{Reversal}
use Rattle.ak_merge.specs.Holdings.{row_under}
use Rattle.ak_merge.specs.Undoing.{StepsSuit}
use Rattle.ak_undo.specs.declared.steps.Step.{Step}
use Rattle.ak_edit.specs.Steps.{reversal_in, reversals_in}
use Rattle.ak_edit.specs.Undos.{IsLatestUndone, SuitsNow, UndoKeepsAll}

-- what an undo keeps, if the list suited what was held
pub undo_keeps_all : (at : ℤ) (c : Collection) (k l : Keeping) (steps left : List Step) → (is : IsLatestUndone at c k l steps left) → SuitsNow steps c → UndoKeepsAll c is.step left is.after
undo_keeps_all at c k l steps left is suits =
    let step = reversal_in is.step in
    let latest : StepsSuit (reversal_in is.step ∷ reversals_in left) (row_under c) c.head.tags =
    subst (λ (reversals : List Reversal). StepsSuit reversals (row_under c) c.head.tags) (ap reversals_in is.list) suits in
    let names = undos_keep_names at c is.after step (reversals_in left) is.undone latest is.named in
    record {
      named = names.0;
      single = names.1;
      linked = λ s fits linked. undos_keep_links at c is.after s step (reversals_in left) is.undone latest fits linked;
      older = λ s other fits. steps_still_fit c is.after s other is.undone.schema is.undone.usn fits;
      suits = lists_suit_after_undo at c is.after step (reversals_in left) is.undone latest;
    }
