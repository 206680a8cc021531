-- An edit that puts one row.
use Rattle.std.specs.Prelude.{◌≡◌, ℤ}
use Rattle.std.specs.Option.{option_map_or}
use Rattle.ak_base.specs.Rows.{name_of}
use Rattle.ak_base.specs.declared.names.Name.{Name}
use Rattle.ak_base.specs.declared.names.Table.TheVariants as tables
use Rattle.ak_base.specs.declared.rows.Row.{Row}
use Rattle.ak_edit.specs.Ends.{RefusesStamp}
use Rattle.ak_edit.specs.Refusals.{Refusal}
use Rattle.ak_keep.specs.Collections.{Collection}
use Rattle.ak_merge.specs.EditBuilding.{unedited, with_row}
use Rattle.ak_merge.specs.Edits.{Edit}
use Rattle.ak_merge.specs.Holdings.{row_under}

-- the edit that puts this row under its name
abbrev pub row_edit : Row → Collection → Edit
row_edit row c = with_row row (unedited c)

-- the tests of that edit: its stamp or the moment ends
abbrev pub RefusesRowEdit : ℤ → Row → Collection → Refusal
RefusesRowEdit at row c = RefusesStamp at c (row_edit row c)

-- the edit that changes the row of this name in this way, if it is held
abbrev pub row_change : Name → (Row → Row) → Collection → Edit
row_change name change c = option_map_or (λ (row : Row). row_edit (change row) c) (row_under c name) (unedited c)

-- a change that an edit may make of the row of this name: the row keeps its name, and it is no review
pub record MayChange (of : Name) (change : Row → Row) : Type 0 where
  pub name : (row : Row) → name_of (change row) ≡ name_of row
  pub review : of.table ≡ tables.Review → ⊥
