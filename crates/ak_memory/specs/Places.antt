-- The places of rows: what is held under a name now, and what was held there at the mark.
use Rattle.std.specs.Prelude.{◌≡◌, ℕ, ℤ, if◌then◌else◌, Bool, true, false, not, ◌&&◌, Option, Some, None, is_some, List, [], ◌∷◌, ◌++◌, ◌==◌, filter, length}
use Rattle.std.specs.BTreeMap.{is_at}
use Rattle.std.specs.FinMap.{empty, insert, remove}
use Rattle.std.specs.List.{list_any}
use Rattle.std.specs.Map.{lookup}
use Rattle.std.specs.Option.{option_and_then, option_to_list}
use Rattle.ak_base.specs.Names.{name_cmp, table_place}
use Rattle.ak_base.specs.declared.names.Name.{Name}
use Rattle.ak_base.specs.declared.names.Table.{Table}
use Rattle.ak_base.specs.declared.rows.Row.{Row}
use Rattle.ak_keep.specs.Collections.{Rows}
use Rattle.ak_memory.specs.NoteKeys.{note_of_card}
use Rattle.ak_memory.specs.FoundBy.{found_by}
use Rattle.ak_memory.specs.HeldRows.{held_in, held_row}
use Rattle.ak_memory.specs.declared.held_rows.FoundBy.{FoundBy}
use Rattle.ak_memory.specs.declared.places.Place.{Place}
use Rattle.ak_memory.specs.declared.places.Place.TheVariants.{Empty, Opened, Same, Added, Removed, Replaced}
use Rattle.ak_memory.specs.declared.versions.Version.{Version}
use Rattle.ak_memory.specs.declared.versions.Version.TheVariants.{Now, Mark}

-- ---- one place
-- the row that is held now
abbrev pub row_now : Place → Option Row
row_now Empty = None
row_now Opened = None
row_now (Same row) = Some (held_row row)
row_now (Added row) = Some (held_row row)
row_now (Removed row) = None
row_now (Replaced both) = Some (held_row both.value.row)

-- the row that was held at the mark
abbrev pub row_before : Place → Option Row
row_before Empty = None
row_before Opened = None
row_before (Same row) = Some (held_row row)
row_before (Added row) = None
row_before (Removed row) = Some (held_row row)
row_before (Replaced both) = held_in both.value.before

-- the row that is held now, or that was held at the mark
abbrev pub row_at : Version → Place → Option Row
row_at Now place = row_now place
row_at Mark place = row_before place

-- whether it counts as changed since the mark: a row was put in or taken out, or it was made for one
abbrev pub is_changed : Place → Bool
is_changed Empty = false
is_changed Opened = true
is_changed (Same row) = false
is_changed (Added row) = true
is_changed (Removed row) = true
is_changed (Replaced both) = true

-- ---- places by their names
-- the place under a name
abbrev pub place_under : List (Name × Place) → Name → Option Place
place_under places name = lookup (is_at (name_cmp name)) places

-- the row under a name
abbrev pub row_under : Version → List (Name × Place) → Name → Option Row
row_under version places name = option_and_then (row_at version) (place_under places name)

-- the note that the row under a name is a card of
abbrev pub note_under : Version → List (Name × Place) → Name → Option ℤ
note_under version places name = option_and_then note_of_card (row_under version places name)

-- what the card under a name is found by
abbrev pub found_under : Version → List (Name × Place) → Name → Option FoundBy
found_under version places name = option_and_then found_by (row_under version places name)

-- whether there is a place, and it was changed
abbrev pub is_changed_place : Option Place → Bool
is_changed_place None = false
is_changed_place (Some place) = is_changed place

-- whether the place under a name was changed
abbrev pub is_changed_under : List (Name × Place) → Name → Bool
is_changed_under places name = is_changed_place (place_under places name)

-- whether there is a place that holds nothing, held nothing at the mark, and does not count as changed
abbrev pub is_empty_place : Option Place → Bool
is_empty_place None = false
is_empty_place (Some place) = not (is_changed place) && not (is_some (row_at Now place))

-- whether there is an empty place under a name
abbrev pub is_empty_under : List (Name × Place) → Name → Bool
is_empty_under places name = is_empty_place (place_under places name)

-- no place is empty
abbrev pub AreFull : List (Name × Place) → Type 0
AreFull places = (name : Name) → is_empty_under places name ≡ false

-- no place is empty but for the one under this name
abbrev pub AreFullBut : Name → List (Name × Place) → Type 0
AreFullBut name places = (other : Name) → is_at (name_cmp name) other ≡ false → is_empty_under places other ≡ false

-- how many places were not changed
abbrev pub unchanged_count : List (Name × Place) → ℕ
unchanged_count places = length (filter (λ (entry : Name × Place). not (is_changed entry.1)) places)

-- one, if this is so
abbrev pub one_if : Bool → ℕ
one_if is = if is then 1 else 0

-- with this row under the name, or with none there
abbrev pub with_under : Name → Option Row → Rows → Rows
with_under name None rows = remove rows name
with_under name (Some row) rows = insert rows name row

-- the rows in all places
abbrev pub rows_at : Version → List (Name × Place) → Rows
rows_at version [] = empty
rows_at version (entry ∷ places) = with_under entry.0 (row_at version entry.1) (rows_at version places)

-- ---- which places were changed
-- whether the name is one of these
abbrev pub is_among : List Name → Name → Bool
is_among names name = list_any (λ (one : Name). is_at (name_cmp one) name) names

-- the rows of a table that are held, up to the first place of another
abbrev pub held_run : Table → List (Name × Place) → List Row
held_run table [] = []
held_run table (entry ∷ places) = if table_place entry.0.table == table_place table then option_to_list (row_at Now entry.1) ++ held_run table places else []
