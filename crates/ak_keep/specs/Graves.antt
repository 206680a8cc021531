-- What stands under each name, and the graves among it.
use Rattle.std.specs.Prelude.{Bool, Option, is_some}
use Rattle.std.specs.Option.{option_and_then}
use Rattle.ak_base.specs.Tables.{graves_of}
use Rattle.ak_base.specs.declared.names.Name.{Name}
use Rattle.ak_base.specs.declared.names.Table.{Table}
use Rattle.ak_base.specs.declared.rows.Row.{Row}

-- what stands under each name
abbrev pub RowsByName : Type 0
RowsByName = Name → Option Row

-- the grave of a row of this name, if it is held
abbrev pub grave_under : RowsByName → Name → Option Row
grave_under at name = option_and_then (λ (graves : Table). at (record { table = graves; id = name.id })) (graves_of name.table)

-- a name is dead if its grave is held
abbrev pub is_dead : RowsByName → Name → Bool
is_dead at name = is_some (grave_under at name)
