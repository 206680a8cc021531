-- A row that is added under a new id: what the call answers.
use Rattle.std.specs.Prelude.{◌≡◌, ◌≤ℤ◌, ℤ, pos, List, Result, Ok, Err, IfOk}
use Rattle.std.proofs.Common.{refl, sym, ap, subst, inl, inr, rules, w64, SFits}
use Rattle.std.proofs.lemmas.Int.{ints}
use Rattle.std.specs.FinMap.{get}
use Rattle.ak_base.specs.declared.names.Name.{Name}
use Rattle.ak_base.specs.declared.names.Table.{Table}
use Rattle.ak_base.specs.declared.rows.Row.{Row}
use Rattle.ak_edit.specs.Ends.{RefusesStamp}
use Rattle.ak_edit.specs.Refusals.{AnswersBy}
use Rattle.ak_edit.specs.declared.desk_faults.DeskFault.{DeskFault}
use Rattle.ak_edit_calls.proofs.FreeIds.{one_new}
use Rattle.ak_edit_calls.proofs.Taking.{err_too, ok_too}
use Rattle.ak_edit_calls.proofs.Telling.{where_held-both, where_held-map, where_rows_held, where_told-both}
use Rattle.ak_edit_calls.specs.Additions.{Addition, EndsAddition, IsNewRow, RefusesNewStamp}
use Rattle.ak_edit_calls.specs.Calls.{EndsEdit}
use Rattle.ak_edit_calls.specs.NewNames.{IsNewName, RefusesId}
use Rattle.ak_edit_calls.specs.RowEdits.{RefusesRowEdit, row_edit}
use Rattle.ak_keep.specs.Collections.{Collection, IsId, Rows}
use Rattle.ak_keep.specs.Keepers.{Keeping, WhereHeld, WhereTold}
use Rattle.ak_merge.specs.Edits.{Edit}
use Rattle.ak_merge.specs.Holdings.{name_in, row_under}
use Rattle.ak_undo.specs.declared.steps.Step.{Step}

-- ---- the row is put, and the call gives its id
pub put_ok : (k now : Keeping) (at : ℤ) (row : Row) (value : Unit {0}) (id : ℤ) (steps left : List Step) → EndsEdit {T = Unit {0}} at (row_edit row) (RefusesRowEdit at row) k now steps left (Ok value)
    → EndsEdit {T = ℤ} at (row_edit row) (RefusesRowEdit at row) k now steps left (Ok id)
put_ok k now at row value id steps left ends = record {
  done = ends.done;
  same = tt;
  kept = tt;
  stays = ends.stays;
  answers = where_held-map k (λ c. AnswersBy {T = Unit {0}} (RefusesRowEdit at row c) (Ok value)) (λ c. AnswersBy {T = ℤ} (RefusesRowEdit at row c) (Ok id)) (λ c is. ok_too (RefusesRowEdit at row c) value id is) ends.answers;
}

pub put_err : (k now : Keeping) (at : ℤ) (row : Row) (fault : DeskFault) (steps left : List Step) → EndsEdit {T = Unit {0}} at (row_edit row) (RefusesRowEdit at row) k now steps left (Err fault)
    → EndsEdit {T = ℤ} at (row_edit row) (RefusesRowEdit at row) k now steps left (Err fault)
put_err k now at row fault steps left ends = record {
  done = tt;
  same = ends.same;
  kept = ends.kept;
  stays = ends.stays;
  answers = where_held-map k (λ c. AnswersBy {T = Unit {0}} (RefusesRowEdit at row c) (Err fault)) (λ c. AnswersBy {T = ℤ} (RefusesRowEdit at row c) (Err fault)) (λ c is. err_too (RefusesRowEdit at row c) fault is) ends.answers;
}

-- ---- the new id
-- a refusal before the end leaves all as it was
pub kept_as_is : (k now : Keeping) (added : Addition) (fault : DeskFault) (steps : List Step) → now ≡ k
    → WhereHeld k (λ c. AnswersBy {T = ℤ} (added.tests c) (Err fault)) → EndsAddition added k now steps steps (Err fault)
kept_as_is k now added fault steps same answers =
    record { done = tt; id = tt; same = same; kept = refl; stays = ap (λ (k : Keeping). k.headed) same; answers = answers }

-- the test of the stamp is that of the one id that is new
new_stamp : (at : ℤ) (table : Table) (rule : ℤ → Collection → Edit) (c : Collection) (id : ℤ) (result : Result ℤ DeskFault) → IsNewRow at table id c
    → AnswersBy (RefusesStamp at c (rule id c)) result → AnswersBy (RefusesNewStamp at table rule c) result
new_stamp at table rule c id (Ok value) new answers = record {
  accepted = λ fault is. answers.accepted fault
      (subst (λ (i : ℤ). RefusesStamp at c (rule i c) fault) (one_new at table (row_under c) is.0 id is.1 new) is.2);
  refused = tt;
}
new_stamp at table rule c id (Err fault) new answers = record {
  accepted = tt;
  refused = elim answers.refused [ inl outside ↦ inl outside | inr is ↦ inr (id, new, is) ];
}

-- what is known of the new id
pub record IsFound (at : ℤ) (table : Table) (name : Name) (held : Rows) : Type 0 where
  pub new : IsNewName at table (get held) (name_in table name.id)
  pub passes : AnswersBy {T = Name} (RefusesId at table (get held)) (Ok name)

pub found_in : (k : Keeping) (at : ℤ) (table : Table) (name : Name) → name.table ≡ table → WhereTold k (λ h. IsNewName at table (get h.rows) name)
    → WhereTold k (λ h. AnswersBy {T = Name} (RefusesId at table (get h.rows)) (Ok name)) → WhereHeld k (λ c. IsFound at table name c.rows)
found_in k at table name is new passes =
    where_rows_held k (IsFound at table name)
    (where_told-both k (λ h. IsNewName at table (get h.rows) name) (λ h. AnswersBy {T = Name} (RefusesId at table (get h.rows)) (Ok name)) (λ h. IsFound at table name h.rows)
    (λ h one also. record { new = subst (λ (t : Table). IsNewName at table (get h.rows) (name_in t name.id)) is one; passes = also }) new passes)

-- ---- the row was put under its new id, or its end was refused
-- what the end answers, and what all tests then answer, of which it is the last
pub row_added : (k now : Keeping) (added : Addition) (name : Name) (steps left : List Step) (result : Result ℤ DeskFault)
    → ((c : Collection) (given : Result ℤ DeskFault) → IsFound added.at added.table name c.rows → AnswersBy (RefusesNewStamp added.at added.table added.rule c) given → AnswersBy (added.tests c) given)
    → name.table ≡ added.table → WhereTold k (λ h. IsNewName added.at added.table (get h.rows) name)
    → WhereTold k (λ h. AnswersBy {T = Name} (RefusesId added.at added.table (get h.rows)) (Ok name)) → IfOk result (λ id. id ≡ name.id)
    → EndsEdit added.at (added.rule name.id) (λ c. RefusesStamp added.at c (added.rule name.id c)) k now steps left result
    → EndsAddition added k now steps left result
row_added k now added name steps left (Ok id) last is_in new passes is ends =
    let found : WhereHeld k (λ c. IsFound added.at added.table name c.rows) = found_in k added.at added.table name is_in new passes in
    subst (λ (i : ℤ). EndsAddition added k now steps left (Ok i)) (sym is)
    (record {
      done = ends.done;
      id = where_held-map k (λ c. IsFound added.at added.table name c.rows) (IsNewRow added.at added.table name.id) (λ c one. one.new) found;
      same = tt;
      kept = tt;
      stays = ends.stays;
      answers = where_held-both k (λ c. IsFound added.at added.table name c.rows) (λ c. AnswersBy {T = ℤ} (RefusesStamp added.at c (added.rule name.id c)) (Ok id)) (λ c. AnswersBy {T = ℤ} (added.tests c) (Ok name.id))
          (λ c one was. last c (Ok name.id) one (new_stamp added.at added.table added.rule c name.id (Ok name.id) one.new (ok_too (RefusesStamp added.at c (added.rule name.id c)) id name.id was))) found ends.answers;
    })
row_added k now added name steps left (Err fault) last is_in new passes is ends = record {
  done = tt;
  id = tt;
  same = ends.same;
  kept = ends.kept;
  stays = ends.stays;
  answers = where_held-both k (λ c. IsFound added.at added.table name c.rows) (λ c. AnswersBy {T = ℤ} (RefusesStamp added.at c (added.rule name.id c)) (Err fault)) (λ c. AnswersBy {T = ℤ} (added.tests c) (Err fault))
      (λ c one was. last c (let r : Result ℤ DeskFault = Err fault in r) one (new_stamp added.at added.table added.rule c name.id (let r : Result ℤ DeskFault = Err fault in r) one.new was))
      (found_in k added.at added.table name is_in new passes) ends.answers;
}

-- ---- the id
pub id_in_range : (result : Result ℤ DeskFault) (id : ℤ) → IsId id → IfOk result (λ given. given ≡ id) → IfOk result IsId
id_in_range (Ok given) id range is = subst IsId (sym is) range
id_in_range (Err fault) id range is = tt

-- an id as the program has it
pub id_in_w64 : (id : ℤ) → IsId id → SFits w64 id
id_in_w64 id range =
    let low : pos 1 ≤ℤ id = range.low in
    let high : id ≤ℤ pos 9_007_199_254_740_991 = range.high in
    search (rules, ints)
