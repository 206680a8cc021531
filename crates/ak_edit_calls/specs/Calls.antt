-- What the editing calls share: how they are refused for rows that are not held, and what they leave.
use Rattle.std.specs.Prelude.{◌≡◌, ◌⊎◌, ℤ, Bool, false, not, is_some, List, Option, Some, None, Result, OnErr, OnOk}
use Rattle.std.specs.FinMap.{get}
use Rattle.std.specs.List.{find, list_any}
use Rattle.std.specs.Ordering.{int_eq}
use Rattle.ak_base.specs.declared.names.Name.{Name}
use Rattle.ak_base.specs.declared.names.Table.{Table}
use Rattle.ak_edit.specs.Ends.{IsFinished}
use Rattle.ak_edit.specs.Overlays.{Overlay}
use Rattle.ak_edit.specs.Refusals.{AnswersBy, IsEndFault, Refusal}
use Rattle.ak_edit.specs.declared.desk_faults.DeskFault.{DeskFault}
use Rattle.ak_edit.specs.declared.desk_faults.DeskFault.TheVariants as faults
use Rattle.ak_keep.specs.Collections.{Collection, Rows}
use Rattle.ak_keep.specs.Keepers.{Keeping, WhereHeld, WhereTold}
use Rattle.ak_keep.specs.declared.readables.Lookup.{Ghosts}
use Rattle.ak_merge.specs.Edits.{Edit}
use Rattle.ak_keep.specs.Graves.{RowsByName}
use Rattle.ak_merge.specs.Holdings.{name_in}
use Rattle.ak_undo.specs.declared.steps.Step.{Step}

-- whether the id is one of these
abbrev pub has_id : List ℤ → ℤ → Bool
has_id ids id = list_any (λ (other : ℤ). int_eq other id) ids

-- ---- refusals
-- the row of this name, which the call needs, is not held
abbrev pub RefusesAbsent : RowsByName → Name → Refusal
RefusesAbsent at name fault = (at name ≡ None) × (fault ≡ faults.NoSuch name)

-- the first of these ids under which the table holds no row
abbrev pub first_missing : RowsByName → Table → List ℤ → Option ℤ
first_missing at table ids = find (λ (id : ℤ). not (is_some (at (name_in table id)))) ids

-- a row of the table that the call names is not held: the first one in the order of the list
abbrev pub RefusesMissing : RowsByName → Table → List ℤ → Refusal
RefusesMissing at table ids fault = (id : ℤ) × (first_missing at table ids ≡ Some id) × (fault ≡ faults.NoSuch (name_in table id))

-- a row of the table is not held
abbrev pub IsMissingFault : Table → DeskFault → Type 0
IsMissingFault table fault = (id : ℤ) × (fault ≡ faults.NoSuch (name_in table id))

-- the schema may not change
abbrev pub RefusesSchema : Bool → Refusal
RefusesSchema allow fault = (allow ≡ false) × (fault ≡ faults.SchemaAsk)

-- what a call that names rows of the table may answer: one is not held, or a fault of the end of an edit
abbrev pub IsMissingOrEnd : Table → DeskFault → Type 0
IsMissingOrEnd table fault = IsMissingFault table fault ⊎ IsEndFault fault

-- ---- what a call leaves
-- at this moment the edit of the collection that was held was done: the keeper holds what the edit leaves, and the undo list
-- has its step
abbrev pub DoesEdit : ℤ → (Collection → Edit) → Keeping → Keeping → List Step → List Step → Type 0
DoesEdit at rule before now steps left = WhereHeld before (λ c. IsFinished at c (rule c) before now steps left)

-- how a call ended that does this edit at this moment if none of its tests refuses it, of what the keeper held before and holds
-- now and of the undo list before and now: if it was refused, all is as it was
pub record EndsEdit {T : Type 0} (at : ℤ) (rule : Collection → Edit) (tests : Collection → Refusal) (before now : Keeping) (steps left : List Step) (result : Result T DeskFault) : Type 0 where
  pub done : OnOk result (DoesEdit at rule before now steps left)
  pub same : OnErr result (now ≡ before)
  pub kept : OnErr result (left ≡ steps)
  -- whether a head is held stays, told or not
  pub stays : now.headed ≡ before.headed
  pub answers : WhereHeld before (λ c. AnswersBy (tests c) result)

-- the same of a keeper as it was and as it is
abbrev pub EditsBy : {Self T : Type 0} → Ghosts Self → Self → Self → List Step → List Step → Result T DeskFault → ℤ → (Collection → Edit) → (Collection → Refusal) → Type 0
EditsBy K was now steps left result at rule tests = EndsEdit at rule tests (K.keeping was) (K.keeping now) steps left result

-- ---- what a part of a call does, which reads rows alone
-- the changes of an edit under way became what this step makes of them and of the rows that are held
abbrev pub ChangesBy : {Self : Type 0} → Ghosts Self → Self → Overlay → Overlay → (Rows → Overlay → Overlay) → Type 0
ChangesBy K was before made step = WhereTold (K.keeping was) (λ h. made ≡ step h.rows before)

-- the answer of a part of a call with these tests of the rows that are held
abbrev pub AnswersFrom : {Self T : Type 0} → Ghosts Self → Self → Result T DeskFault → (RowsByName → Refusal) → Type 0
AnswersFrom K was result tests = WhereTold (K.keeping was) (λ h. AnswersBy (tests (get h.rows)) result)
