-- The names that a new row may have.
use Rattle.std.specs.Prelude.{◌≡◌, ℤ, ◌≤ℤ◌, ◌<ℤ◌, Bool, true, false, ◌||◌, Option, Some, None, is_some}
use Rattle.ak_base.specs.Heads.{IsWithin}
use Rattle.ak_base.specs.Limits.{last_id}
use Rattle.ak_base.specs.declared.names.Name.{Name}
use Rattle.ak_keep.specs.Graves.{RowsByName, is_dead}

-- whether a new row may not have a name: a row or a grave of it is held
abbrev pub is_used : RowsByName → Name → Bool
is_used at name = is_some (at name) || is_dead at name

-- every id of the table from the first on and before the end is taken
abbrev pub AreTakenBefore : (Name → Bool) → Name → ℤ → Type 0
AreTakenBefore taken first end =
    (id : ℤ) → first.id ≤ℤ id → id <ℤ end → taken (record { table = first.table; id = id }) ≡ true

-- this name of the table is free, and it is the first one from `first` on
pub record IsFree (taken : Name → Bool) (first name : Name) : Type 0 where
  pub table : name.table ≡ first.table
  pub from : first.id ≤ℤ name.id
  pub within : name.id ≤ℤ last_id
  pub free : taken name ≡ false
  pub least : AreTakenBefore taken first name.id

-- the first name that is free, none if every id up to the last one is taken
abbrev pub IsFirstFree : (Name → Bool) → Name → Option Name → Type 0
IsFirstFree taken first None =
    (id : ℤ) → first.id ≤ℤ id → id ≤ℤ last_id → taken (record { table = first.table; id = id }) ≡ true
IsFirstFree taken first (Some name) = IsFree taken first name

-- told or not, a name that was found is of the table, and its id is from the first one to the last one
abbrev pub IsFoundFrom : Name → Name → Type 0
IsFoundFrom first name = (name.table ≡ first.table) × IsWithin first.id last_id name.id
