-- The rule by which a side takes a row that it received.
use Rattle.ak_base.specs.Rows.{buried_of, name_of, stamp_of, with_usn}
use Rattle.ak_keep.specs.Collections.{Holding, Rows}
use Rattle.std.specs.Prelude.{◌≡◌, ℤ, Bool, true, not, ◌&&◌, if◌then◌else◌, int_lt, List, [], ◌∷◌, Option, Some, None, is_some}
use Rattle.std.specs.FinMap.{get, insert, remove}
use Rattle.std.specs.List.{All, Contains}
use Rattle.std.specs.Option.{option_map, option_map_or}
use Rattle.std.specs.Ordering.{eq_by_cmp}
use Rattle.ak_base.specs.Names.{name_cmp}
use Rattle.ak_base.specs.declared.names.Name.{Name}
use Rattle.ak_base.specs.declared.rows.Row.{Row}
use Rattle.ak_keep.specs.Graves.{RowsByName, is_dead}
use Rattle.ak_merge.specs.declared.sides.Side.{Side}
use Rattle.ak_merge.specs.declared.sides.Side.TheVariants.{Device, Server}

-- these are the rows that stand there, in any order, each once or more often
pub record IsListOf (rows : List Row) (at : RowsByName) : Type 0 where
  pub each : All (λ row. at (name_of row) ≡ Some row) rows
  pub whole : (name : Name) (row : Row) → at name ≡ Some row → Contains rows row

-- whether a row that came takes the place of one with this stamp that is held under its name. What a server holds gives way only to a
-- newer row. What a device holds gives way to one that is not older, so that the server's stands at a tie. A grave gives way on neither
-- side: with equal graves on both, one that was not sent yet is still sent
abbrev pub beats : Side → ℤ → Row → Bool
beats Server held came = int_lt held (stamp_of came)
beats Device held came = not (is_some (buried_of came)) && not (int_lt (stamp_of came) held)

-- the same of the stamp of the one that is held, if any is
abbrev pub beats_held : Side → Option ℤ → Row → Bool
beats_held side None came = true
beats_held side (Some held) came = beats side held came

-- a row is taken if its grave is not held, and no row of its name is, or one that it takes the place of
abbrev pub takes : Side → RowsByName → Row → Bool
takes side at row = not (is_dead at (name_of row)) && beats_held side (option_map stamp_of (at (name_of row))) row

-- without the row whose grave this is
abbrev pub buried : Row → Rows → Rows
buried row held = option_map_or (λ (name : Name). remove held name) (buried_of row) held

-- what is held after a received row: a grave takes its row away, and the row stands with this usn if it is taken
abbrev pub taken : Side → ℤ → Row → Rows → Rows
taken side usn row held = if takes side (get held) row then insert (buried row held) (name_of row) (with_usn row usn) else buried row held

-- after these rows, one after the other
abbrev pub all_taken : Side → ℤ → List Row → Rows → Rows
all_taken side usn [] held = held
all_taken side usn (row ∷ more) held = all_taken side usn more (taken side usn row held)

-- the same of all that is held
abbrev pub with_taken : Side → ℤ → Row → Holding → Holding
with_taken side usn row c = record c { rows = taken side usn row c.rows }

-- what is held without the row whose grave this is
abbrev pub without_buried : Row → Holding → Holding
without_buried row c = record c { rows = buried row c.rows }

-- a row of the same name was changed later
abbrev pub is_newer_of : Row → Row → Bool
is_newer_of held came = eq_by_cmp name_cmp (name_of held) (name_of came) && int_lt (stamp_of held) (stamp_of came)
