-- Rows that a call adds under a new id.
use Rattle.std.specs.Prelude.{◌≡◌, ℤ, List, Result, IfOk, OnErr}
use Rattle.ak_base.specs.declared.names.Table.{Table}
use Rattle.ak_edit.specs.Ends.{RefusesStamp}
use Rattle.ak_edit.specs.Refusals.{AnswersBy, Refusal}
use Rattle.ak_edit.specs.declared.desk_faults.DeskFault.{DeskFault}
use Rattle.ak_edit_calls.specs.Calls.{DoesEdit}
use Rattle.ak_edit_calls.specs.NewNames.{IsNewName}
use Rattle.ak_keep.specs.Collections.{Collection}
use Rattle.ak_keep.specs.Keepers.{Keeping, WhereHeld}
use Rattle.ak_keep.specs.declared.readables.Lookup.{Ghosts}
use Rattle.ak_merge.specs.Edits.{Edit}
use Rattle.ak_merge.specs.Holdings.{name_in, row_under}
use Rattle.ak_undo.specs.declared.steps.Step.{Step}

-- this is the id of a row that is added to the table at this moment
abbrev pub IsNewRow : ℤ → Table → ℤ → Collection → Type 0
IsNewRow at table id c = IsNewName at table (row_under c) (name_in table id)

-- what a call adds: a row of this table at this moment, by the edit of its new id, if none of these tests refuses it
pub record Addition : Type 1 where
  pub at : ℤ
  pub table : Table
  pub rule : ℤ → Collection → Edit
  pub tests : Collection → Refusal

-- how a call ended that adds this, of what the keeper held before and holds now and of the undo list before and now: it gives the id, and
-- if it was refused, all is as it was
pub record EndsAddition (added : Addition) (before now : Keeping) (steps left : List Step) (result : Result ℤ DeskFault) : Type 0 where
  pub done : IfOk result (λ id. DoesEdit added.at (added.rule id) before now steps left)
  pub id : IfOk result (λ id. WhereHeld before (IsNewRow added.at added.table id))
  pub same : OnErr result (now ≡ before)
  pub kept : OnErr result (left ≡ steps)
  -- whether a head is held stays, told or not
  pub stays : now.headed ≡ before.headed
  pub answers : WhereHeld before (λ c. AnswersBy (added.tests c) result)

-- the same of a keeper as it was and as it is
abbrev pub AddsBy : {Self : Type 0} → Ghosts Self → Self → Self → List Step → List Step → Result ℤ DeskFault → Addition → Type 0
AddsBy K was now steps left result added = EndsAddition added (K.keeping was) (K.keeping now) steps left result

-- the stamp of the row that is added, or the moment ends
abbrev pub RefusesNewStamp : ℤ → Table → (ℤ → Collection → Edit) → Collection → Refusal
RefusesNewStamp at table rule c fault = (id : ℤ) × IsNewRow at table id c × RefusesStamp at c (rule id c) fault
