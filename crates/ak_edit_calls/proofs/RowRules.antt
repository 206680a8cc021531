-- What a row that is put asks for, and when its edit is refused.
use Rattle.std.specs.Prelude.{◌≡◌, ℤ, pos, Bool, true, false, cond, List, Option, Some, Result}
use Rattle.std.proofs.Common.{refl, sym, ap, subst, ◌∙◌}
use Rattle.std.proofs.lemmas.Option.{same_Some}
use Rattle.std.specs.FinMap.{get}
use Rattle.std.specs.Option.{option_map_or}
use Rattle.std.specs.Ordering.{eq_by_cmp}
use Rattle.ak_base.specs.Names.{name_cmp}
use Rattle.ak_base.specs.Rows.{IsChecked, name_of}
use Rattle.ak_base.specs.declared.names.Name.{Name}
use Rattle.ak_base.specs.declared.rows.Row.{Row}
use Rattle.ak_edit.specs.Ends.{AnswersEnd, FinishedBy, IsFinished, IsHeldRightly, RefusesEnd, RefusesRow, RefusesStamp}
use Rattle.ak_edit.specs.Overlays.{Overlay, edit_of, put_over, unchanged}
use Rattle.ak_edit.specs.Refusals.{AnswersBy}
use Rattle.ak_edit.specs.declared.desk_faults.DeskFault.{DeskFault}
use Rattle.ak_edit_calls.proofs.Answering.{never_first}
use Rattle.ak_edit_calls.proofs.CheckedEdits.{edited_rows_pass}
use Rattle.ak_edit_calls.proofs.CheckedRows.{checked_edited}
use Rattle.ak_edit_calls.proofs.Overlaying.{edit_by_names, none_noted, put_under}
use Rattle.ak_edit_calls.proofs.Telling.{where_held-both, where_held-map, where_rows_held}
use Rattle.ak_edit_calls.specs.Calls.{DoesEdit}
use Rattle.ak_edit_calls.specs.RowEdits.{RefusesRowEdit, row_change, row_edit}
use Rattle.ak_keep.specs.Collections.{Collection}
use Rattle.ak_keep.specs.Keepers.{Keeping, WhereHeld, WhereTold}
use Rattle.ak_merge.specs.EditBuilding.{unedited}
use Rattle.ak_merge.specs.Edits.{Edit, edited}
use Rattle.ak_merge.specs.Holdings.{row_under}
use Rattle.ak_undo.specs.declared.steps.Step.{Step}

-- what the change asks for is the rule's edit
pub row_edit_of : (row : Row) (c : Collection) (o : Overlay) → o ≡ put_over row unchanged → edit_of o c ≡ row_edit row c
row_edit_of row c o is =
    ap (λ (p : Overlay). edit_of p c) is
    ∙ edit_by_names (put_over row unchanged) c (λ name. cond (eq_by_cmp name_cmp name (name_of row)) (Some row) (row_under c name)) refl
    (λ name. put_under unchanged (row_under c) row name ∙ ap (cond (eq_by_cmp name_cmp name (name_of row)) (Some row)) (none_noted (row_under c) name))

one_checked : (b : Bool) (row other : Row) (x : Option Row) → IsChecked (edited (pos 0) row) → ((r : Row) → x ≡ Some r → IsChecked r) → cond b (Some row) x ≡ Some other → IsChecked (edited (pos 0) other)
one_checked true row other x checked held is = subst (λ (r : Row). IsChecked (edited (pos 0) r)) (same_Some row other is) checked
one_checked false row other x checked held is = checked_edited other (held other is)

pub row_edit_rows : (row : Row) (c : Collection) (fault : DeskFault) → IsHeldRightly c → IsChecked (edited (pos 0) row) → RefusesRow c (row_edit row c) fault → ⊥
row_edit_rows row c fault rightly checked =
    edited_rows_pass c (row_edit row c) fault (λ name other is. one_checked (eq_by_cmp name_cmp name (name_of row)) row other (row_under c name) checked (rightly.checked name) is)

pub row_edit_done : (k now : Keeping) (at : ℤ) (row : Row) (o : Overlay) (steps left : List Step) → o ≡ put_over row unchanged → FinishedBy at o k now steps left → DoesEdit at (row_edit row) k now steps left
row_edit_done k now at row o steps left is =
    where_held-map k (λ c. IsFinished at c (edit_of o c) k now steps left) (λ c. IsFinished at c (row_edit row c) k now steps left)
    (λ c finished. subst (λ (e : Edit). IsFinished at c e k now steps left) (row_edit_of row c o is) finished)

pub row_edit_answered : (k : Keeping) (at : ℤ) (row : Row) (o : Overlay) (result : Result (Unit {0}) DeskFault) → IsChecked (edited (pos 0) row) → o ≡ put_over row unchanged
    → WhereHeld k IsHeldRightly → AnswersEnd at o k result → WhereHeld k (λ c. AnswersBy (RefusesRowEdit at row c) result)
row_edit_answered k at row o result checked is =
    where_held-both k IsHeldRightly (λ c. AnswersBy (RefusesEnd at c (edit_of o c)) result) (λ c. AnswersBy (RefusesRowEdit at row c) result)
    (λ c rightly answers. never_first (RefusesRow c (row_edit row c)) (RefusesStamp at c (row_edit row c)) result (λ fault. row_edit_rows row c fault rightly checked)
    (subst (λ (e : Edit). AnswersBy (RefusesEnd at c e) result) (row_edit_of row c o is) answers))

-- ---- a row that is changed
pub row_change_is : (name : Name) (change : Row → Row) (c : Collection) (row : Row) → row_under c name ≡ Some row → row_edit (change row) c ≡ row_change name change c
row_change_is name change c row held = ap (λ (x : Option Row). option_map_or (λ (r : Row). row_edit (change r) c) x (unedited c)) (sym held)

pub row_change_done : (k now : Keeping) (at : ℤ) (name : Name) (change : Row → Row) (row : Row) (steps left : List Step)
    → WhereTold k (λ h. get h.rows name ≡ Some row) → DoesEdit at (row_edit (change row)) k now steps left → DoesEdit at (row_change name change) k now steps left
row_change_done k now at name change row steps left held =
    where_held-both k (λ c. row_under c name ≡ Some row) (λ c. IsFinished at c (row_edit (change row) c) k now steps left) (λ c. IsFinished at c (row_change name change c) k now steps left)
    (λ c is finished. subst (λ (e : Edit). IsFinished at c e k now steps left) (row_change_is name change c row is) finished)
    (where_rows_held k (λ rows. get rows name ≡ Some row) held)
