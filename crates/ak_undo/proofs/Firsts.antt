-- The latest step of a list.
use Rattle.std.proofs.Common.{List, [], ◌∷◌, IfSome, arith}
use Rattle.std.specs.List.{All, slice_get}
use Rattle.ak_undo.specs.Steps.{IsStepInRange}
use Rattle.ak_undo.specs.declared.steps.Step.{Step}

-- what holds of each holds of the first
pub first : (steps : List Step) → All IsStepInRange steps → IfSome (slice_get steps 0) IsStepInRange
first [] all = tt
first (step ∷ steps) all = all 0 step (omega arith)
