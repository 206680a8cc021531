-- A page of a table: a run of the entries, and what comes after it.
use Rattle.std.specs.Prelude.{Option, Some, None, Bool, true, if◌then◌else◌, ◌==◌, List, [], ◌∷◌}
use Rattle.ak_base.specs.Names.{table_place}
use Rattle.ak_base.specs.declared.names.Name.{Name}
use Rattle.ak_base.specs.declared.names.Table.{Table}
use Rattle.ak_base.specs.declared.rows.Row.{Row}
use Rattle.ak_keep.specs.Collections.{is_wanted}
use Rattle.ak_keep.specs.declared.keepers.Wanted.{Wanted}

-- the rows of a table up to the first entry of another
abbrev pub first_run : Table → List (Name × Row) → List Row
first_run table [] = []
first_run table (entry ∷ es) = if table_place entry.0.table == table_place table then entry.1 ∷ first_run table es else []

-- whether a page takes the row: any row, or the wanted ones
abbrev pub is_picked : Option Wanted → Row → Bool
is_picked None row = true
is_picked (Some want) row = is_wanted want row
