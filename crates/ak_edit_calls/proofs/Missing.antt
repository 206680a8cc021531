-- The first row of a list that is not held, row by row.
use Rattle.std.specs.Prelude.{◌≡◌, ℕ, ℤ, pos, ◌+◌, ◌<◌, Bool, false, not, cond, is_some, List, length, get_or, drop, Option, Some, None, Ok}
use Rattle.std.proofs.Common.{refl, sym, ap, ◌∙◌}
use Rattle.std.proofs.lemmas.List.{at_drop_more}
use Rattle.std.specs.FinMap.{get}
use Rattle.ak_base.specs.declared.names.Name.{Name}
use Rattle.ak_base.specs.declared.names.Table.{Table}
use Rattle.ak_base.specs.declared.rows.Row.{Row}
use Rattle.ak_edit_calls.proofs.Telling.{where_told-both}
use Rattle.ak_edit_calls.specs.Calls.{RefusesAbsent, first_missing}
use Rattle.ak_edit.specs.Refusals.{AnswersBy}
use Rattle.ak_edit.specs.declared.desk_faults.DeskFault.{DeskFault}
use Rattle.ak_edit.specs.declared.desk_faults.DeskFault.TheVariants as faults
use Rattle.ak_keep.specs.Keepers.{Keeping, WhereTold}
use Rattle.ak_keep.specs.Graves.{RowsByName}
use Rattle.ak_merge.specs.Holdings.{name_in}

-- a row for whose want nothing is refused is held
held_of : (at : RowsByName) (name : Name) (x : Option Row) → at name ≡ x → ((fault : DeskFault) → RefusesAbsent at name fault → ⊥) → not (is_some x) ≡ false
held_of at name None is never = absurd (never (faults.NoSuch name) (is, refl))
held_of at name (Some row) is never = refl

passed_here : (at : RowsByName) (table : Table) (ids : List ℤ) (i : ℕ) → i < length ids → ((fault : DeskFault) → RefusesAbsent at (name_in table (get_or ids i (pos 0))) fault → ⊥)
    → first_missing at table (drop (i + 1) ids) ≡ first_missing at table (drop i ids)
passed_here at table ids i within never =
    let name : Name = name_in table (get_or ids i (pos 0)) in
    sym (at_drop_more (first_missing at table) ids i (pos 0) within
    ∙ ap (λ (b : Bool). cond b (Some (get_or ids i (pos 0))) (first_missing at table (drop (i + 1) ids))) (held_of at name (at name) refl never))

-- the rows that were passed are held, and so is one more
pub passed_one : (k : Keeping) (table : Table) (ids : List ℤ) (i : ℕ) (value : Unit {0}) → i < length ids
    → WhereTold k (λ h. first_missing (get h.rows) table (drop i ids) ≡ first_missing (get h.rows) table ids)
    → WhereTold k (λ h. AnswersBy {T = Unit {0}} (RefusesAbsent (get h.rows) (name_in table (get_or ids i (pos 0)))) (Ok value))
    → WhereTold k (λ h. first_missing (get h.rows) table (drop (i + 1) ids) ≡ first_missing (get h.rows) table ids)
passed_one k table ids i value within =
    where_told-both k (λ h. first_missing (get h.rows) table (drop i ids) ≡ first_missing (get h.rows) table ids)
    (λ h. AnswersBy {T = Unit {0}} (RefusesAbsent (get h.rows) (name_in table (get_or ids i (pos 0)))) (Ok value))
    (λ h. first_missing (get h.rows) table (drop (i + 1) ids) ≡ first_missing (get h.rows) table ids)
    (λ h so_far here. passed_here (get h.rows) table ids i within here.accepted ∙ so_far)
