-- What the records made passes the tests at the end of the edit: each record was tested by itself.
use Rattle.std.specs.Prelude.{◌≡◌, ℤ, pos, Bool, true, false, cond, if◌then◌else◌, is_some, IsTrue, List, [], ◌∷◌, Option, Some, None}
use Rattle.std.proofs.Common.{refl, sym, ap, subst, inl, inr, ◌∙◌}
use Rattle.std.specs.FinMap.{get, get-insert, insert}
use Rattle.std.specs.List.{AllByRecursion}
use Rattle.std.specs.Option.{option_map, option_map_or}
use Rattle.std.specs.Ordering.{eq_by_cmp}
use Rattle.ak_base.specs.Heads.{IsMoment, IsWithin}
use Rattle.ak_base.specs.Limits.{last_stamp}
use Rattle.ak_base.specs.Names.{name_cmp, names_total}
use Rattle.ak_base.specs.Rows.{name_of}
use Rattle.ak_base.specs.Tables.{buried_in, buried_name}
use Rattle.ak_base.specs.declared.names.Name.{Name}
use Rattle.ak_base.specs.declared.rows.Row.{Row}
use Rattle.ak_edit.proofs.Writing.{unchanged_row}
use Rattle.ak_edit.specs.Ends.{RefusesEnd, RefusesStamp}
use Rattle.ak_edit.specs.Plans.{stamp_made}
use Rattle.ak_edit.specs.declared.desk_faults.DeskFault.{DeskFault}
use Rattle.ak_edit_calls.proofs.CheckedEdits.{checked_edits_pass}
use Rattle.ak_imports.specs.Imports.{Progress, edit_to}
use Rattle.ak_imports.specs.KeptRows.{rows_with}
use Rattle.ak_imports.specs.UnderWay.{ArePassed, IsPassedRow, IsPassedUnder}
use Rattle.ak_keep.proofs.RowsByName.{same_of_tied}
use Rattle.ak_keep.specs.Collections.{Collection, Rows}
use Rattle.ak_keep.specs.Graves.{RowsByName}
use Rattle.ak_merge.proofs.EditFacts.{false_true}
use Rattle.ak_merge.specs.Edits.{DoesChange, advanced, changes_row, changes_under, edited, goes, second_of}
use Rattle.ak_merge.specs.Holdings.{AreChecked, row_under}

-- ---- rows that are put
one_passed : (at : ℤ) (c : Collection) (held : Rows) (row : Row) (name : Name) → IsPassedUnder at (row_under c name) (get held name) → IsPassedRow at (row_under c (name_of row)) row
    → IsPassedUnder at (row_under c name) (get (insert held (name_of row) row) name)
one_passed at c held row name passed is =
    subst (IsPassedUnder at (row_under c name)) (sym (get-insert names_total held (name_of row) row name))
    (elim (eq_by_cmp name_cmp name (name_of row)) as (λ b. eq_by_cmp name_cmp name (name_of row) ≡ b → IsPassedUnder at (row_under c name) (cond b (Some row) (get held name))) [
      | true ↦ λ tied. inr (subst (λ (n : Name). IsPassedRow at (row_under c n) row) (sym (same_of_tied name (name_of row) tied)) is)
      | false ↦ λ _. passed
    ] refl)

-- rows that pass were put over what passes
pub rows_passed : (at : ℤ) (c : Collection) (made : List Row) (held : Rows) → ((name : Name) → IsPassedUnder at (row_under c name) (get held name))
    → AllByRecursion (λ (row : Row). IsPassedRow at (row_under c (name_of row)) row) made → (name : Name) → IsPassedUnder at (row_under c name) (get (rows_with made held) name)
rows_passed at c [] held passed all = passed
rows_passed at c (row ∷ others) held passed all =
    rows_passed at c others (insert held (name_of row) row) (λ name. one_passed at c held row name (passed name) all.0) all.1

-- ---- the end
-- what nothing stands under nothing stood under
pub none_before : (at : ℤ) (before now : Option Row) → now ≡ None → IsPassedUnder at before now → before ≡ None
none_before at before None is passed = passed
none_before at before (Some row) is passed = absurd (subst (λ (o : Option Row). elim o as (λ _. Type 0) [ None ↦ ⊥ | Some x ↦ Unit {0} ]) is tt)

none_made : (b : Bool) → IsTrue (is_some (if b then option_map (edited (pos 0)) None else None)) → ⊥
none_made true is = false_true is
none_made false is = false_true is

abbrev made_there : Bool → Option Row → Option Row → Option Row
made_there buried before made = if buried then None else if changes_row before made then option_map (edited (pos 0)) made else None

stamp_passes : (at : ℤ) (buried : Bool) (before made : Option Row) → IsPassedUnder at before made → IsTrue (is_some (made_there buried before made))
    → (IsWithin (pos 0) last_stamp (stamp_made (second_of at) before made) → ⊥) → ⊥
stamp_passes at true before made passed is outside = false_true is
stamp_passes at false before None passed is outside = none_made (changes_row before None) is
stamp_passes at false before (Some row) passed is outside = elim passed [
  | inl same ↦ false_true (subst (λ (b : Bool). IsTrue (is_some (if b then option_map (edited (pos 0)) (Some row) else None)))
      (ap (λ (o : Option Row). changes_row o (Some row)) same ∙ unchanged_row (Some row)) is)
  | inr made ↦ outside made.stamp
]

stays_there : (x : Option Row) → goes x x ≡ false
stays_there None = refl
stays_there (Some row) = refl

same_under : (held : RowsByName) (name : Name) → changes_under held held name ≡ false
same_under held name =
    elim (buried_name name) as (λ (o : Option Name). option_map_or (λ (row : Name). goes (held row) (held row)) o (changes_row (held name) (held name)) ≡ false) [
      | None ↦ unchanged_row (held name)
      | Some row ↦ stays_there (held row)
    ]

-- what asks for what is held changes nothing
nothing_changes : (c : Collection) → DoesChange c (edit_to c []) → ⊥
nothing_changes c changes = elim changes [
  | inl row ↦ false_true (subst IsTrue (same_under (row_under c) row.0) row.1)
  | inr more ↦ elim more [
    | inl tag ↦ false_true tag.1
    | inr others ↦ elim others [ inl differs ↦ differs refl | inr schema ↦ false_true schema ]
  ]
]

moment_passes : (at : ℤ) (c : Collection) (p : Progress) → ArePassed at c p → DoesChange c (edit_to p.collection p.tags) → (IsMoment (advanced at c.head.moment) → ⊥) → ⊥
moment_passes at c p passed changes outside = elim passed.moved [
  | inl same ↦ nothing_changes c (subst (DoesChange c) same changes)
  | inr rises ↦ outside rises
]

stamps_pass : (at : ℤ) (c : Collection) (p : Progress) (fault : DeskFault) → ArePassed at c p → RefusesStamp at c (edit_to p.collection p.tags) fault → ⊥
stamps_pass at c p fault passed refuses = elim refuses.1 [
  | inl row ↦ stamp_passes at (is_some (buried_in row.0.table)) (row_under c row.0) (row_under p.collection row.0) (passed.rows row.0) row.1 row.2
  | inr more ↦ elim more [
    | inl moment ↦ moment_passes at c p passed moment.0 moment.1
    | inr schema ↦ false_true schema.0
  ]
]

-- the end of an edit refuses nothing that the records made
pub end_passes : (at : ℤ) (c : Collection) (p : Progress) (fault : DeskFault) → AreChecked (row_under p.collection) → ArePassed at c p → RefusesEnd at c (edit_to p.collection p.tags) fault → ⊥
end_passes at c p fault checked passed refuses = elim refuses [
  | inl row ↦ checked_edits_pass c (edit_to p.collection p.tags) fault checked row
  | inr stamp ↦ stamps_pass at c p fault passed stamp.1
]

-- before the first record
pub start_passes : (at : ℤ) (c : Collection) (p : Progress) → p.collection ≡ c → p.tags ≡ [] → ArePassed at c p
start_passes at c p same none = record {
  rows = λ name. subst (λ (d : Collection). IsPassedUnder at (row_under c name) (row_under d name)) (sym same) (held_passes at (row_under c name));
  moved = inl (ap (λ (d : Collection). edit_to d p.tags) same ∙ ap (edit_to c) none);
  moment = ap (λ (d : Collection). d.head.moment) same;
}
  where
    held_passes : (at : ℤ) (x : Option Row) → IsPassedUnder at x x
    held_passes at None = refl
    held_passes at (Some row) = inl refl
