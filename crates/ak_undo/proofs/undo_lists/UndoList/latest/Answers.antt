use Rattle.std.proofs.Common.{List, IfSome, subst}
use Rattle.std.specs.List.{slice_get}
use Rattle.ak_undo.proofs.Firsts.{first}
use Rattle.ak_undo.specs.Steps.{IsStepInRange}
use Rattle.ak_undo.specs.declared.steps.Step.{Step}
use Rattle.ak_undo.proofs.undo_lists.UndoList.latest.Goals as goal

pub returns-clause-range : goal.returns-clause-range
returns-clause-range c = subst (λ (steps : List Step). IfSome (slice_get steps 0) IsStepInRange) c.self.view_is (first _ c.self.invariant.1)
