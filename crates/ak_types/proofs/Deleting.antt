-- A note type that is deleted: what the changes ask for, and what the call answers.
use Rattle.std.specs.Prelude.{◌≡◌, ℤ, Bool, true, false, if◌then◌else◌, List, Option, Some, None, Result, Ok, Err, OnErr, OnOk}
use Rattle.std.proofs.Common.{refl, ap, subst, ◌∙◌}
use Rattle.std.proofs.lemmas.Option.{none-some}
use Rattle.std.specs.FinMap.{get}
use Rattle.std.specs.Ordering.{eq_by_cmp}
use Rattle.ak_base.specs.Names.{name_cmp}
use Rattle.ak_base.specs.Rows.{IsChecked}
use Rattle.ak_base.specs.declared.names.Name.{Name}
use Rattle.ak_base.specs.declared.names.Table.TheVariants as tables
use Rattle.ak_base.specs.declared.rows.Row.{Row}
use Rattle.ak_edit.proofs.Building.{nothing_asked, removal_asked}
use Rattle.ak_edit.specs.Ends.{AnswersEnd, FinishedBy, IsFinished, IsHeldRightly, RefusesEnd, RefusesRow, RefusesStamp}
use Rattle.ak_edit.specs.Overlays.{Overlay, edit_of, removed_over, schema_over, unchanged}
use Rattle.ak_edit.specs.Refusals.{AnswersBy, OrElse, Refusal}
use Rattle.ak_edit.specs.declared.desk_faults.DeskFault.{DeskFault}
use Rattle.ak_edit_calls.proofs.Answering.{never_first, on_ok-map, passed_first, refused_first}
use Rattle.ak_edit_calls.proofs.CheckedEdits.{checked_edits_pass}
use Rattle.ak_edit_calls.proofs.Telling.{where_held-both, where_held-map, where_rows_held}
use Rattle.ak_edit_calls.specs.Calls.{DoesEdit, EndsEdit, RefusesAbsent}
use Rattle.ak_keep.specs.Collections.{Collection}
use Rattle.ak_keep.specs.Keepers.{Keeping, WhereHeld, WhereTold}
use Rattle.ak_merge.specs.EditBuilding.{with_schema, without_row}
use Rattle.ak_merge.specs.Edits.{Edit}
use Rattle.ak_merge.specs.Holdings.{name_in, row_under}
use Rattle.ak_types.specs.TypeDeletions.{RefusesDeletion, RefusesKept, type_deletion}
use Rattle.ak_undo.specs.declared.steps.Step.{Step}

-- the name of the type
abbrev named : ℤ → Name
named note_type = name_in tables.NoteType note_type

-- ---- what the changes ask for
-- the schema changes, and the type was removed
abbrev pub removal : ℤ → Overlay
removal note_type = removed_over (named note_type) (schema_over unchanged)

deletion_of : (note_type : ℤ) (c : Collection) (o : Overlay) → o ≡ removal note_type → edit_of o c ≡ type_deletion note_type c
deletion_of note_type c o is =
    ap (λ (p : Overlay). edit_of p c) is
    ∙ removal_asked c (schema_over unchanged) (named note_type)
    ∙ ap (λ (e : Edit). without_row (named note_type) (with_schema e)) (nothing_asked c)

-- ---- no row that it makes breaks its check
left_checked : (gone : Bool) (x : Option Row) (row : Row) → ((r : Row) → x ≡ Some r → IsChecked r) → (if gone then None else x) ≡ Some row → IsChecked row
left_checked true x row checked is = absurd (none-some row is)
left_checked false x row checked is = checked row is

-- its end never refuses a row
deletion_rows : (c : Collection) (note_type : ℤ) (fault : DeskFault) → IsHeldRightly c → RefusesRow c (type_deletion note_type c) fault → ⊥
deletion_rows c note_type fault rightly =
    checked_edits_pass c (type_deletion note_type c) fault
    (λ name row is. left_checked (eq_by_cmp name_cmp name (named note_type)) (row_under c name) row (rightly.checked name) is)

-- ---- the end of the edit
deletion_done : (k now : Keeping) (at note_type : ℤ) (o : Overlay) (steps left : List Step) → o ≡ removal note_type
    → FinishedBy at o k now steps left → DoesEdit at (type_deletion note_type) k now steps left
deletion_done k now at note_type o steps left is =
    where_held-map k (λ c. IsFinished at c (edit_of o c) k now steps left) (λ c. IsFinished at c (type_deletion note_type c) k now steps left)
    (λ c finished. subst (λ (e : Edit). IsFinished at c e k now steps left) (deletion_of note_type c o is) finished)

-- ---- its answer
-- the tests after that of the type
abbrev RefusesLater : ℤ → ℤ → Bool → Collection → Refusal
RefusesLater at note_type allow c = OrElse (RefusesKept note_type allow c.rows) (RefusesStamp at c (type_deletion note_type c))

-- what is known of the tests before the end
record Passes {T : Type 0} (note_type : ℤ) (allow : Bool) (row : Row) (result : Result T DeskFault) (c : Collection) : Type 0 where
  there : AnswersBy {T = Row} (RefusesAbsent (row_under c) (named note_type)) (Ok row)
  kept : AnswersBy {T = T} (RefusesKept note_type allow c.rows) result

passes : {T : Type 0} (k : Keeping) (note_type : ℤ) (allow : Bool) (row : Row) (result : Result T DeskFault) → WhereTold k (λ h. AnswersBy {T = Row} (RefusesAbsent (get h.rows) (named note_type)) (Ok row))
    → WhereTold k (λ h. AnswersBy {T = T} (RefusesKept note_type allow h.rows) result) → WhereHeld k (Passes note_type allow row result)
passes {T} k note_type allow row result there kept =
    where_held-both k (λ c. AnswersBy {T = Row} (RefusesAbsent (row_under c) (named note_type)) (Ok row)) (λ c. AnswersBy {T = T} (RefusesKept note_type allow c.rows) result) (Passes note_type allow row result)
    (λ c one other. record { there = one; kept = other })
    (where_rows_held k (λ held. AnswersBy {T = Row} (RefusesAbsent (get held) (named note_type)) (Ok row)) there)
    (where_rows_held k (λ held. AnswersBy {T = T} (RefusesKept note_type allow held) result) kept)

pub deletion_refused : (k : Keeping) (at note_type : ℤ) (allow : Bool) (row : Row) (fault : DeskFault) → WhereTold k (λ h. AnswersBy {T = Row} (RefusesAbsent (get h.rows) (named note_type)) (Ok row))
    → WhereTold k (λ h. AnswersBy {T = Unit {0}} (RefusesKept note_type allow h.rows) (Err fault)) → WhereHeld k (λ c. AnswersBy {T = Unit {0}} (RefusesDeletion at note_type allow c) (Err fault))
deletion_refused k at note_type allow row fault there kept =
    where_held-map k (Passes {T = Unit {0}} note_type allow row (Err fault)) (λ c. AnswersBy {T = Unit {0}} (RefusesDeletion at note_type allow c) (Err fault))
    (λ c is. passed_first (RefusesAbsent (row_under c) (named note_type)) (RefusesLater at note_type allow c) row (let r : Result (Unit {0}) DeskFault = Err fault in r) is.there
    (refused_first {T = Unit {0}} (RefusesKept note_type allow c.rows) (RefusesStamp at c (type_deletion note_type c)) fault is.kept))
    (passes {T = Unit {0}} k note_type allow row (Err fault) there kept)

-- all that is known before the end
record IsReady (note_type : ℤ) (allow : Bool) (row : Row) (value : Unit {0}) (c : Collection) : Type 0 where
  tests : Passes {T = Unit {0}} note_type allow row (Ok value) c
  rightly : IsHeldRightly c

end_answers : (at note_type : ℤ) (allow : Bool) (row : Row) (value : Unit {0}) (o : Overlay) (result : Result (Unit {0}) DeskFault) (c : Collection) → o ≡ removal note_type
    → IsReady note_type allow row value c → AnswersBy (RefusesEnd at c (edit_of o c)) result → AnswersBy (RefusesDeletion at note_type allow c) result
end_answers at note_type allow row value o result c is ready answers =
    let edit : Edit = type_deletion note_type c in
    passed_first (RefusesAbsent (row_under c) (named note_type)) (RefusesLater at note_type allow c) row result ready.tests.there
    (passed_first (RefusesKept note_type allow c.rows) (RefusesStamp at c edit) value result ready.tests.kept
    (never_first (RefusesRow c edit) (RefusesStamp at c edit) result (λ fault. deletion_rows c note_type fault ready.rightly)
    (subst (λ (e : Edit). AnswersBy (RefusesEnd at c e) result) (deletion_of note_type c o is) answers)))

-- a refusal before the end leaves all as it was
pub deletion_kept : (k now : Keeping) (at note_type : ℤ) (allow : Bool) (fault : DeskFault) (steps : List Step) → now ≡ k → WhereHeld k (λ c. AnswersBy {T = Unit {0}} (RefusesDeletion at note_type allow c) (Err fault))
    → EndsEdit {T = Unit {0}} at (type_deletion note_type) (RefusesDeletion at note_type allow) k now steps steps (Err fault)
deletion_kept k now at note_type allow fault steps same answers = record {
  done = tt;
  same = same;
  kept = refl;
  stays = ap (λ (k : Keeping). k.headed) same;
  answers = answers;
}

-- the end of the call, by that of the change
pub deletion_ended : (k now : Keeping) (at note_type : ℤ) (allow : Bool) (row : Row) (value : Unit {0}) (o : Overlay) (steps left : List Step) (result : Result (Unit {0}) DeskFault) → o ≡ removal note_type
    → WhereTold k (λ h. AnswersBy {T = Row} (RefusesAbsent (get h.rows) (named note_type)) (Ok row)) → WhereTold k (λ h. AnswersBy {T = Unit {0}} (RefusesKept note_type allow h.rows) (Ok value))
    → WhereHeld k IsHeldRightly → OnOk result (FinishedBy at o k now steps left) → OnErr result (now ≡ k) → OnErr result (left ≡ steps) → now.headed ≡ k.headed
    → AnswersEnd at o k result → EndsEdit at (type_deletion note_type) (RefusesDeletion at note_type allow) k now steps left result
deletion_ended k now at note_type allow row value o steps left result is there kept_by rightly done same kept stays answers = record {
  done = on_ok-map result (FinishedBy at o k now steps left) (DoesEdit at (type_deletion note_type) k now steps left) (deletion_done k now at note_type o steps left is) done;
  same = same;
  kept = kept;
  stays = stays;
  answers = where_held-both k (IsReady note_type allow row value) (λ c. AnswersBy (RefusesEnd at c (edit_of o c)) result) (λ c. AnswersBy (RefusesDeletion at note_type allow c) result)
      (λ c ready ends. end_answers at note_type allow row value o result c is ready ends)
      (where_held-both k (Passes {T = Unit {0}} note_type allow row (Ok value)) IsHeldRightly (IsReady note_type allow row value) (λ c one other. record { tests = one; rightly = other })
      (passes {T = Unit {0}} k note_type allow row (Ok value) there kept_by) rightly) answers;
}
