-- The names of the rows that calls add: the free id that one row gets, and those of rows made one after another.
use Rattle.std.specs.Prelude.{◌≡◌, ◌⊎◌, ℕ, zero, suc, ℤ, pos, Bool, List, [], ◌∷◌, None, Some}
use Rattle.std.specs.FinMap.{get}
use Rattle.std.specs.Int.{int_max}
use Rattle.ak_base.specs.Names.{next_name}
use Rattle.ak_base.specs.declared.names.Name.{Name}
use Rattle.ak_base.specs.declared.names.Table.{Table}
use Rattle.ak_edit.specs.Refusals.{IsFromOutside, Refusal}
use Rattle.ak_edit.specs.declared.desk_faults.DeskFault.{DeskFault}
use Rattle.ak_edit.specs.declared.desk_faults.DeskFault.TheVariants as faults
use Rattle.ak_keep.specs.Collections.{Holding}
use Rattle.ak_keep.specs.FreeNames.{IsFirstFree, IsFree, is_used}
use Rattle.ak_keep.specs.Graves.{RowsByName}
use Rattle.ak_keep.specs.Keepers.{Keeping, WhereTold}

-- ---- one name
-- the name from which on a new row of a table looks for its own at a moment: its id is the moment's, and at least 1
abbrev pub first_name : Table → ℤ → Name
first_name table at = record { table = table; id = int_max at (pos 1) }

-- the name of a new row of this table at this moment: its id is the least one from the moment on, and at least 1, that is free
abbrev pub IsNewName : ℤ → Table → RowsByName → Name → Type 0
IsNewName moment table at name = IsFirstFree (is_used at) (first_name table moment) (Some name)

-- no id from the moment on is free
abbrev pub RefusesId : ℤ → Table → RowsByName → Refusal
RefusesId moment table at fault = IsFirstFree (is_used at) (first_name table moment) None × (fault ≡ faults.IdEnd)

-- the name is the first that is free from another on, in what is held
abbrev pub IsFreeIn : Name → Name → Holding → Type 0
IsFreeIn first name h = IsFree (is_used (get h.rows)) first name

-- no name is free from this one on where it is told what is held, or the fault comes from outside
abbrev pub IsNoneFreeFrom : Keeping → Name → DeskFault → Type 0
IsNoneFreeFrom k first fault =
    IsFromOutside fault ⊎ (WhereTold k (λ h. IsFirstFree (is_used (get h.rows)) first None) × (fault ≡ faults.IdEnd))

-- a fault of ids, told or not
abbrev pub IsIdFault : DeskFault → Type 0
IsIdFault fault = IsFromOutside fault ⊎ (fault ≡ faults.IdEnd)

-- ---- names one after another
-- there is no such number of free ids from the first one on
abbrev pub LacksIds : (Name → Bool) → Name → ℕ → Type 0
LacksIds used first zero = ⊥
LacksIds used first (suc others) =
    IsFirstFree used first None ⊎ ((name : Name) × IsFree used first name × LacksIds used (next_name name) others)

-- a row is made of each of these things in their order, each with the first free id after the one before; the relation says
-- what is made of a thing and an id
abbrev pub AreMadeOf : {A R : Type 0} → (Name → Bool) → (A → ℤ → R → Type 0) → Name → List A → List R → Type 0
AreMadeOf used IsMade first [] made = made ≡ []
AreMadeOf {A} {R} used IsMade first (x ∷ xs) made =
    (name : Name) × IsFree used first name × (row : R) × IsMade x name.id row
    × (others : List R) × (made ≡ row ∷ others) × AreMadeOf used IsMade (next_name name) xs others

-- there are too few free ids for so many rows from this name on
abbrev pub RefusesIdsFrom : Name → ℕ → RowsByName → Refusal
RefusesIdsFrom first count at fault = LacksIds (is_used at) first count × (fault ≡ faults.IdEnd)
