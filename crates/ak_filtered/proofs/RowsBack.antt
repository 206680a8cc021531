-- Rows that are the same but for stamp and usn, and what edits that change rows one by one leave of them.
use Rattle.std.specs.Prelude.{◌≡◌, ℤ, pos, negsuc, Bool, true, false, IsTrue, if◌then◌else◌, List, Option, Some, None}
use Rattle.std.proofs.Common.{refl, sym, ap, subst, ◌∙◌}
use Rattle.std.specs.Option.{option_map, option_map_or}
use Rattle.ak_base.proofs.SameRows.{fields_exactly}
use Rattle.ak_base.specs.Contents.{same_but_stamp_and_usn}
use Rattle.ak_base.specs.Rows.{stamp_of, with_stamp, with_usn}
use Rattle.ak_base.specs.Tables.{buried_name}
use Rattle.ak_base.specs.declared.names.Name.{Name}
use Rattle.ak_base.specs.declared.rows.Row.{Row}
use Rattle.ak_base.specs.declared.rows.Row.TheVariants as rows
use Rattle.ak_keep.specs.Collections.{Collection}
use Rattle.ak_keep.specs.Graves.{RowsByName}
use Rattle.ak_merge.proofs.EditFacts.{edited_fields, own_fields}
use Rattle.ak_merge.specs.EditBuilding.{unedited, with_rows_mapped}
use Rattle.ak_merge.specs.Edits.{IsEdited, advanced, edited, edited_row, edited_under, goes, grave_left, second_of}
use Rattle.ak_merge.specs.Holdings.{row_under}

-- a row without its stamp and its number
abbrev pub bare : Row → Row
bare row = with_usn (with_stamp row (pos 0)) (negsuc 0)

pub same_of_bare : (a b : Row) → bare a ≡ bare b → IsTrue (same_but_stamp_and_usn a b)
same_of_bare a b is = (fields_exactly a b (pos 0) (negsuc 0)).1 is

pub bare_of_same : (a b : Row) → IsTrue (same_but_stamp_and_usn a b) → bare a ≡ bare b
bare_of_same a b is = (fields_exactly a b (pos 0) (negsuc 0)).0 is

-- what stands there says the same as what was asked for
abbrev pub SaysSame : Option Row → Option Row → Type 0
SaysSame made left = option_map bare left ≡ option_map bare made

-- an edit that changes a row leaves one that says what the changed one does
one_row : (second : ℤ) (before made : Row) → SaysSame (Some made) (edited_row second (Some before) (Some made))
one_row second before made =
    elim (same_but_stamp_and_usn made before) as (λ b. same_but_stamp_and_usn made before ≡ b
    → option_map bare (if b then Some before else Some (edited (advanced second (stamp_of before)) made)) ≡ Some (bare made)) [
      | true ↦ λ is. ap Some (sym (bare_of_same made before is))
      | false ↦ λ _. ap Some (sym (bare_of_same made (edited (advanced second (stamp_of before)) made) (edited_fields (advanced second (stamp_of before)) made)))
    ] refl

mapped_row : (second : ℤ) (change : Row → Row) (x : Option Row) → SaysSame (option_map change x) (edited_row second x (option_map change x))
mapped_row second change None = refl
mapped_row second change (Some row) = one_row second row (change row)

stays : (change : Row → Row) (x : Option Row) → goes x (option_map change x) ≡ false
stays change None = refl
stays change (Some row) = refl

-- under a grave's name stands what stood there, and else the changed row but for stamp and number
mapped_under : (second : ℤ) (change : Row → Row) (at : RowsByName) (name : Name)
    → (buried_name name ≡ None → SaysSame (option_map change (at name)) (edited_under second at (λ (n : Name). option_map change (at n)) name))
mapped_under second change at name none =
    subst (λ (o : Option Name). SaysSame (option_map change (at name))
    (option_map_or (λ (row : Name). if goes (at row) (option_map change (at row)) then grave_left row else at name) o (edited_row second (at name) (option_map change (at name)))))
    (sym none) (mapped_row second change (at name))

grave_under : (second : ℤ) (change : Row → Row) (at : RowsByName) (name row : Name) → buried_name name ≡ Some row
    → edited_under second at (λ (n : Name). option_map change (at n)) name ≡ at name
grave_under second change at name row is =
    ap (λ (o : Option Name). option_map_or (λ (r : Name). if goes (at r) (option_map change (at r)) then grave_left r else at name) o (edited_row second (at name) (option_map change (at name)))) is
    ∙ ap (λ b. if b then grave_left row else at name) (stays change (at row))

-- ---- of a collection
-- what an edit that changes rows one by one leaves under the name of a row that is no grave
pub row_left : (at : ℤ) (c after : Collection) (change : Row → Row) (name : Name) → IsEdited at c (with_rows_mapped change (unedited c)) after → buried_name name ≡ None
    → SaysSame (option_map change (row_under c name)) (row_under after name)
row_left at c after change name is none = ap (option_map bare) (is.rows name) ∙ mapped_under (second_of at) change (row_under c) name none

-- under the name of a grave all stays
pub grave_stays : (at : ℤ) (c after : Collection) (change : Row → Row) (name row : Name) → IsEdited at c (with_rows_mapped change (unedited c)) after → buried_name name ≡ Some row
    → row_under after name ≡ row_under c name
grave_stays at c after change name row is buried = is.rows name ∙ grave_under (second_of at) change (row_under c) name row buried
