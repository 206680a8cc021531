-- The name of a row that is added, and why there is none.
use Rattle.std.specs.Prelude.{◌≡◌, ℤ, pos, ◌≤ℤ◌, None, Result, Ok, Err, IfOk, IfErr}
use Rattle.std.proofs.Common.{inl, inr, arith}
use Rattle.std.proofs.lemmas.Int.{ints}
use Rattle.std.specs.FinMap.{get}
use Rattle.ak_base.specs.declared.names.Name.{Name}
use Rattle.ak_base.specs.declared.names.Table.{Table}
use Rattle.ak_edit.specs.Refusals.{AnswersBy}
use Rattle.ak_edit.specs.declared.desk_faults.DeskFault.{DeskFault}
use Rattle.ak_edit_calls.proofs.FreeIds.{none_free}
use Rattle.ak_edit_calls.proofs.Telling.{where_always}
use Rattle.ak_edit_calls.specs.NewNames.{IsFreeIn, IsIdFault, IsNewName, IsNoneFreeFrom, RefusesId, first_name}
use Rattle.ak_keep.proofs.Told.{where_told-map}
use Rattle.ak_keep.specs.Collections.{IsId}
use Rattle.ak_keep.specs.FreeNames.{IsFirstFree, IsFoundFrom, is_used}
use Rattle.ak_keep.specs.Graves.{RowsByName}
use Rattle.ak_keep.specs.Keepers.{Keeping, WhereTold}

-- the name that was found is of the table of the one that was first
pub found_in_table : (first : Name) (result : Result Name DeskFault) → IfOk result (IsFoundFrom first) → IfOk result (λ name. name.table ≡ first.table)
found_in_table first (Ok name) found = found.0
found_in_table first (Err fault) found = tt

-- its id is that of a row
pub found_in_range : (first : Name) (result : Result Name DeskFault) → pos 1 ≤ℤ first.id → IfOk result (IsFoundFrom first) → IfOk result (λ name. IsId name.id)
found_in_range first (Ok name) low found = record { low = grind (arith, ints, low, found.1.low); high = found.1.high }
found_in_range first (Err fault) low found = tt

-- if no name is free from this one on, the fault is one of ids
pub none_listed : (k : Keeping) (first : Name) (result : Result Name DeskFault) → IfErr result (IsNoneFreeFrom k first) → IfErr result IsIdFault
none_listed k first (Ok name) none = tt
none_listed k first (Err fault) none = elim none [ inl outside ↦ inl outside | inr is ↦ inr is.1 ]

-- a name that was found is free
name_passes : (at : ℤ) (table : Table) (rows : RowsByName) (name : Name) → IsNewName at table rows name → AnswersBy {T = Name} (RefusesId at table rows) (Ok name)
name_passes at table rows name is = record {
  accepted = λ fault refuses. none_free (is_used rows) (first_name table at) name is refuses.0;
  refused = tt;
}

-- the name of a new row is the first free one, and there is none if none is free
pub name_answers : (k : Keeping) (at : ℤ) (table : Table) (result : Result Name DeskFault) → IfOk result (λ name. WhereTold k (IsFreeIn (first_name table at) name))
    → IfErr result (IsNoneFreeFrom k (first_name table at)) → WhereTold k (λ h. AnswersBy (RefusesId at table (get h.rows)) result)
name_answers k at table (Ok name) free none =
    where_told-map k (λ h. IsNewName at table (get h.rows) name) (λ h. AnswersBy {T = Name} (RefusesId at table (get h.rows)) (Ok name))
    (λ h is. name_passes at table (get h.rows) name is) free
name_answers k at table (Err fault) free none =
    elim none [
      | inl outside ↦ where_always k (λ h. AnswersBy {T = Name} (RefusesId at table (get h.rows)) (Err fault)) (λ h. record { accepted = tt; refused = inl outside })
      | inr is ↦
          where_told-map k (λ h. IsFirstFree (is_used (get h.rows)) (first_name table at) None) (λ h. AnswersBy {T = Name} (RefusesId at table (get h.rows)) (Err fault))
          (λ h lack. record { accepted = tt; refused = inr (lack, is.1) }) is.0
    ]
