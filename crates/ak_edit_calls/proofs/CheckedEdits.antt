-- An edit all of whose rows pass their checks.
use Rattle.std.specs.Prelude.{◌≡◌, pos, Bool, true, false, if◌then◌else◌, Option, Some, None}
use Rattle.std.proofs.Common.{refl, subst}
use Rattle.std.proofs.lemmas.Option.{none-some, same_Some}
use Rattle.std.specs.Option.{option_map}
use Rattle.ak_base.specs.Rows.{IsChecked, check_of}
use Rattle.ak_base.specs.declared.names.Name.{Name}
use Rattle.ak_base.specs.declared.rows.Row.{Row}
use Rattle.ak_edit.specs.Ends.{RefusesRow}
use Rattle.ak_edit.specs.declared.desk_faults.DeskFault.{DeskFault}
use Rattle.ak_edit_calls.proofs.CheckedRows.{checked_edited, ok_err}
use Rattle.ak_keep.specs.Collections.{Collection}
use Rattle.ak_merge.specs.Edits.{Edit, edited}
use Rattle.ak_merge.specs.Holdings.{AreChecked}

made_checked : (made : Option Row) (row : Row) → ((r : Row) → made ≡ Some r → IsChecked (edited (pos 0) r)) → (buried changes : Bool)
    → (if buried then None else if changes then option_map (edited (pos 0)) made else None) ≡ Some row → IsChecked row
made_checked made row checked true changes is = absurd (none-some row is)
made_checked made row checked false false is = absurd (none-some row is)
made_checked None row checked false true is = absurd (none-some row is)
made_checked (Some r) row checked false true is = subst IsChecked (same_Some (edited (pos 0) r) row is) (checked r refl)

-- its end never refuses a row, if each passes its check as the edit leaves it
pub edited_rows_pass : (c : Collection) (edit : Edit) (fault : DeskFault) → ((name : Name) (row : Row) → edit.rows name ≡ Some row → IsChecked (edited (pos 0) row))
    → RefusesRow c edit fault → ⊥
edited_rows_pass c edit fault checked refuses =
    let first = refuses.2 in
    let passes : IsChecked first.row = made_checked (edit.rows first.name) first.row (checked first.name) _ _ first.made in
    ok_err refuses.0 (check_of first.row) passes first.fails

-- the same if each passes it now
pub checked_edits_pass : (c : Collection) (edit : Edit) (fault : DeskFault) → AreChecked edit.rows → RefusesRow c edit fault → ⊥
checked_edits_pass c edit fault checked = edited_rows_pass c edit fault (λ name row is. checked_edited row (checked name row is))
