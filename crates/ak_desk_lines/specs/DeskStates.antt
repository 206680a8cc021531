-- The state of a desk between two lines.
use Rattle.std.specs.Prelude.{ℤ, List}
use Rattle.ak_desk.specs.declared.desks.Desk.{Desk}
use Rattle.ak_edit.specs.Ends.{IsFinished}
use Rattle.ak_keep.specs.Collections.{Collection}
use Rattle.ak_keep.specs.Keepers.{Keeping}
use Rattle.ak_keep.specs.declared.readables.Lookup.{Ghosts}
use Rattle.ak_merge.specs.Edits.{Edit}
use Rattle.ak_undo.specs.declared.steps.Step.{Step}

-- what is known of the keeper of a desk, and its undo list
pub record DeskState : Type 0 where
  pub keeping : Keeping
  pub steps : List Step

-- the state of a desk
abbrev pub state_of : {K : Type 0} → Ghosts K → Desk K → DeskState
state_of K desk = record { keeping = K.keeping desk.keeper.now; steps = desk.undo.now }

-- at this moment the edit of the collection that was held was done
abbrev pub Edits : ℤ → (Collection → Edit) → Collection → DeskState → DeskState → Type 0
Edits at rule c before after = IsFinished at c (rule c) before.keeping after.keeping before.steps after.steps
