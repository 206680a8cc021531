-- The end of an edit: what it leaves, and why it is refused.
use Rattle.std.specs.Prelude.{◌≡◌, ◌⊎◌, ℤ, negsuc, pos, if◌then◌else◌, IfSome, IsTrue, List, Option, Some, None, is_some, Result, Err}
use Rattle.std.specs.Option.{option_map, unwrap_or}
use Rattle.std.specs.declared.cmp.Ordering.TheVariants.{Less}
use Rattle.ak_base.specs.Heads.{IsHeadInRange, IsMoment, IsWithin}
use Rattle.ak_base.specs.Limits.{last_stamp}
use Rattle.ak_base.specs.Names.{name_cmp}
use Rattle.ak_base.specs.Rows.{IsChecked, check_of}
use Rattle.ak_base.specs.Tables.{buried_in}
use Rattle.ak_base.specs.declared.errors.RowFault.{RowFault}
use Rattle.ak_base.specs.declared.heads.Head.{Head}
use Rattle.ak_base.specs.declared.names.Name.{Name}
use Rattle.ak_base.specs.declared.rows.Row.{Row}
use Rattle.ak_keep.specs.Collections.{Collection}
use Rattle.ak_keep.specs.Keepers.{Keeping, WhereHeld, changed}
use Rattle.ak_merge.specs.Edits.{DoesChange, Edit, IsEdited, advanced, changes_row, edited, second_of}
use Rattle.ak_merge.specs.Holdings.{AreChecked, AreNamed, row_under}
use Rattle.ak_merge.specs.Tags.{tags_taken}
use Rattle.ak_merge.specs.Undoing.{IsListAfter}
use Rattle.ak_undo.specs.declared.steps.Step.{Step}
use Rattle.ak_edit.specs.Overlays.{Overlay, edit_of}
use Rattle.ak_edit.specs.Plans.{stamp_made}
use Rattle.ak_edit.specs.Refusals.{AnswersBy, OrElse, Refusal}
use Rattle.ak_edit.specs.Steps.{reversals_in}
use Rattle.ak_edit.specs.declared.desk_faults.DeskFault.{DeskFault}
use Rattle.ak_edit.specs.declared.desk_faults.DeskFault.TheVariants as faults

-- ---- what it leaves
-- the head after changes that change anything: the moment rises, and if the schema changes, so does its moment
abbrev pub head_after : ℤ → Overlay → Head → Head
head_after at o head =
    record head {
      moment = advanced at head.moment;
      schema = if o.schema then advanced at head.schema else head.schema;
      conf = unwrap_or o.conf head.conf;
      tags = tags_taken (negsuc 0) o.tags head.tags;
    }

-- a keeper that held something holds this collection in its place
abbrev pub holding_now : Collection → Keeping → Keeping
holding_now c = changed (λ _. record { rows = c.rows; head = Some c.head })

-- what a keeper tells of a collection: each row bears its name and passes its check, and the head is in range
pub record IsHeldRightly (c : Collection) : Type 0 where
  pub named : AreNamed (row_under c)
  pub checked : AreChecked (row_under c)
  pub head : IsHeadInRange c.head

-- an edit of c was ended at this moment: the keeper holds what the edit leaves, and the undo list has the edit's step
pub record IsFinished (at : ℤ) (c : Collection) (edit : Edit) (before now : Keeping) (steps left : List Step) : Type 0 where
  -- each row of c stands under its name
  pub named : AreNamed (row_under c)
  pub after : Collection
  pub edited : IsEdited at c edit after
  pub held : now ≡ holding_now after before
  pub list : IsListAfter c edit after (reversals_in steps) (reversals_in left)

-- the same of the changes, where a collection is told
abbrev pub FinishedBy : ℤ → Overlay → Keeping → Keeping → List Step → List Step → Type 0
FinishedBy at o before now steps left = WhereHeld before (λ c. IsFinished at c (edit_of o c) before now steps left)

-- ---- why it is refused
-- the row that an edit makes under a name, if it makes one: with stamp 0, which a check passes
abbrev pub row_made : Collection → Edit → Name → Option Row
row_made c edit name =
    if is_some (buried_in name.table) then None
    else if changes_row (row_under c name) (edit.rows name) then option_map (edited (pos 0)) (edit.rows name) else None

-- the stamp that this row gets
abbrev pub stamp_under : ℤ → Collection → Edit → Name → ℤ
stamp_under second c edit name = stamp_made second (row_under c name) (edit.rows name)

-- the fault of the first row by table and id that an edit makes and that does not pass its check
pub record IsFirstFault (c : Collection) (edit : Edit) (fault : RowFault) : Type 0 where
  pub name : Name
  pub row : Row
  pub made : row_made c edit name ≡ Some row
  pub fails : check_of row ≡ Err fault
  pub first : (other : Name) → name_cmp other name ≡ Less → IfSome (row_made c edit other) IsChecked

-- the stamp of a row that an edit makes, the moment or the moment of the schema has no value left to rise to, or is out of
-- its range since now is: past its last value, or before 0
abbrev pub IsAtLastStamp : ℤ → Collection → Edit → Type 0
IsAtLastStamp at c edit =
    ((name : Name) × IsTrue (is_some (row_made c edit name))
    × (IsWithin (pos 0) last_stamp (stamp_under (second_of at) c edit name) → ⊥))
    ⊎ (DoesChange c edit × (IsMoment (advanced at c.head.moment) → ⊥))
    ⊎ (IsTrue edit.schema × (IsMoment (advanced at c.head.schema) → ⊥))

-- a row that the edit makes does not pass its check
abbrev pub RefusesRow : Collection → Edit → Refusal
RefusesRow c edit fault = (row : RowFault) × (fault ≡ faults.Row row) × IsFirstFault c edit row

-- a stamp or a moment ends
abbrev pub RefusesStamp : ℤ → Collection → Edit → Refusal
RefusesStamp at c edit fault = (fault ≡ faults.StampEnd) × IsAtLastStamp at c edit

-- the tests at the end of an edit, which come after all others of a call
abbrev pub RefusesEnd : ℤ → Collection → Edit → Refusal
RefusesEnd at c edit = OrElse (RefusesRow c edit) (RefusesStamp at c edit)

-- the answer at the end of the changes, where a collection is told
abbrev pub AnswersEnd : {T : Type 0} → ℤ → Overlay → Keeping → Result T DeskFault → Type 0
AnswersEnd at o before result = WhereHeld before (λ c. AnswersBy (RefusesEnd at c (edit_of o c)) result)
