-- The first name under which two collections are not apart.
use Rattle.ak_faults.specs.Causes.{Health, GoesOn, Rose}
use Rattle.ak_base.specs.Tables.{all_tables}
use Rattle.std.specs.Prelude.{◌≡◌, pos, Bool, true, false, not, ◌&&◌, List, [], ◌∷◌, find, IsFalse, Option, Some, None, Result, ◌⊎◌}
use Rattle.std.specs.FinMap.{get}
use Rattle.std.specs.Option.{option_map, option_map_or, option_or}
use Rattle.std.specs.Ordering.{int_eq}
use Rattle.std.specs.Result.{IsErrOf}
use Rattle.std.specs.declared.cmp.Ordering.TheVariants.{Less}
use Rattle.ak_base.specs.Contents.{same_content}
use Rattle.ak_base.specs.Names.{name_cmp}
use Rattle.ak_base.specs.Rows.{name_of, stamp_of}
use Rattle.ak_base.specs.declared.names.Name.{Name}
use Rattle.ak_base.specs.declared.names.Table.{Table}
use Rattle.ak_base.specs.declared.rows.Row.{Row}
use Rattle.ak_keep.specs.Collections.{Rows, rows_past}
use Rattle.ak_keep.specs.declared.keepers.KeepFault.{KeepFault}
use Rattle.ak_keep.specs.declared.keepers.KeepFault.TheVariants.{Failed}
use Rattle.ak_keep.specs.Graves.{RowsByName}

-- the other side holds a row of this name with an equal stamp that is not equal, usns aside
abbrev pub conflicts : Row → Option Row → Bool
conflicts row other = option_map_or (λ (held : Row). int_eq (stamp_of row) (stamp_of held) && not (same_content row held)) other false

-- the other side holds such a row of this name
abbrev pub has_conflict : Rows → Row → Bool
has_conflict b row = conflicts row (get b (name_of row))

-- the first such name of a table, by id. Ids are over 0
abbrev pub first_conflict_in : Table → Rows → Rows → Option Name
first_conflict_in table a b = option_map name_of (find (has_conflict b) (rows_past table (pos 0) a))

-- the first such name of these tables, in their order
abbrev pub first_conflict_of : List Table → Rows → Rows → Option Name
first_conflict_of [] a b = None
first_conflict_of (table ∷ more) a b = option_or (first_conflict_in table a b) (first_conflict_of more a b)

-- the first such name, by table and then by id
abbrev pub first_conflict : Rows → Rows → Option Name
first_conflict = first_conflict_of all_tables

-- both hold a row under the name, with equal stamps, and the two are not equal, usns aside
abbrev pub ConflictAt : RowsByName → RowsByName → Name → Type 0
ConflictAt a b name = (x : Row) × (y : Row) × (a name ≡ Some x) × (b name ≡ Some y) × (stamp_of x ≡ stamp_of y) × IsFalse (same_content x y)

-- the two conflict under this name, and under no lesser one
pub record IsLeastConflict (a b : RowsByName) (name : Name) : Type 0 where
  pub conflict : ConflictAt a b name
  pub below : (other : Name) → name_cmp other name ≡ Less → ¬ (ConflictAt a b other)

-- of two readers: neither lost a fault that it had counted, what is calm stays calm, and the call failed only for a fault of one of them
pub record EitherCause {T : Type 0} (a_before a_now b_before b_now : Health) (result : Result T KeepFault) : Type 0 where
  pub one_goes : GoesOn a_before a_now
  pub other_goes : GoesOn b_before b_now
  pub failed : IsErrOf result Failed → Rose a_before a_now ⊎ Rose b_before b_now
  pub unfailed : a_before.calm ≡ true → b_before.calm ≡ true → IsErrOf result Failed → ⊥
