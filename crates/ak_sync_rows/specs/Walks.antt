-- A walk over the rows of a table that a session is given.
use Rattle.std.specs.Prelude.{ℕ, suc, pos, ◌^◌, if◌then◌else◌, List, []}
use Rattle.std.specs.Int.{int_gap}
use Rattle.ak_base.specs.declared.rows.Row.{Row}
use Rattle.ak_keep.specs.Collections.{Rows, wanted_past}
use Rattle.ak_sync_rows.specs.declared.walks.WantedWalk.{WantedWalk}

-- the rows that are still to come
abbrev pub ahead : WantedWalk → Rows → List Row
ahead walk rows = if walk.done then [] else wanted_past walk.past.table walk.want walk.past.id rows

-- no walk has more pages ahead than this
abbrev pub most_pages : WantedWalk → ℕ
most_pages walk = if walk.done then 0 else suc (int_gap walk.past.id (pos (2 ^ 63)))
