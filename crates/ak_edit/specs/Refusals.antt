-- How a call of the desk is refused: for the first of its tests that holds.
use Rattle.std.specs.Prelude.{◌≡◌, ◌⊎◌, Result, IfErr, OnOk}
use Rattle.ak_base.specs.declared.errors.RowFault.{RowFault}
use Rattle.ak_faults.specs.Causes.{Health, HasCauseOf}
use Rattle.ak_edit.specs.declared.desk_faults.DeskFault.{DeskFault}
use Rattle.ak_edit.specs.declared.desk_faults.DeskFault.TheVariants as faults

-- a test of a call: the faults with which it refuses
abbrev pub Refusal : Type 1
Refusal = DeskFault → Type 0

-- the first test refuses with this fault, or it refuses with none and the others refuse with this one
abbrev pub OrElse : Refusal → Refusal → Refusal
OrElse first others fault = first fault ⊎ (((any : DeskFault) → first any → ⊥) × others fault)

-- the keeper failed, or memory was out: this may come at any place of a call
abbrev pub IsFromOutside : DeskFault → Type 0
IsFromOutside fault = (fault ≡ faults.Failed) ⊎ (fault ≡ faults.Memory)

-- the answer of a call with these tests: the first refusal whose test holds, and no refusal if none holds, but for what
-- comes from outside
pub record AnswersBy {T : Type 0} (tests : Refusal) (result : Result T DeskFault) : Type 0 where
  pub accepted : OnOk result ((fault : DeskFault) → tests fault → ⊥)
  pub refused : IfErr result (λ fault. IsFromOutside fault ⊎ tests fault)

-- what the end of an edit may answer: a row that is made, the end of a stamp or a moment, and what comes from outside
abbrev pub IsEndFault : DeskFault → Type 0
IsEndFault fault = IsFromOutside fault ⊎ ((row : RowFault) × (fault ≡ faults.Row row)) ⊎ (fault ≡ faults.StampEnd)

-- what an undo may answer: the rows of a step pass their checks
abbrev pub IsUndoFault : DeskFault → Type 0
IsUndoFault fault = IsFromOutside fault ⊎ (fault ≡ faults.NothingToUndo) ⊎ (fault ≡ faults.StampEnd)

-- the count of faults never falls, and it rose if the call failed; a keeper that is known not to fail did not
abbrev pub DeskCause : {T : Type 0} → Health → Health → Result T DeskFault → Type 0
DeskCause before now result = HasCauseOf faults.Failed before now result
