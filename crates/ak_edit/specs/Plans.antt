-- What an edit writes: the rows under exactly the names that it changes.
use Rattle.std.specs.Prelude.{◌≡◌, IfSome, ℤ, pos, if◌then◌else◌, List, [], ◌∷◌, ◌++◌, map, Option, Some, None, is_some}
use Rattle.std.specs.List.{IsDistinct}
use Rattle.std.specs.Option.{option_map}
use Rattle.std.specs.Ordering.{eq_by_cmp}
use Rattle.ak_base.specs.Names.{name_cmp}
use Rattle.ak_base.specs.Rows.{IsChecked, name_of, stamp_of}
use Rattle.ak_base.specs.Tables.{buried_in, grave_name}
use Rattle.ak_base.specs.declared.names.Name.{Name}
use Rattle.ak_base.specs.declared.rows.Row.{Row}
use Rattle.ak_merge.specs.Edits.{edited, advanced, changes_row, goes, grave_left}
use Rattle.ak_keep.specs.Graves.{RowsByName}
use Rattle.ak_edit.specs.declared.plans.Write.{Write}

-- the stamp of a row that is made, of what stood there before: a new row has that of now
abbrev pub stamp_made : ℤ → Option Row → Option Row → ℤ
stamp_made second before None = pos 0
stamp_made second None (Some made) = second
stamp_made second (Some before) (Some made) = advanced second (stamp_of before)

-- the write of a row, if it changes
abbrev pub row_writes : ℤ → Name → Option Row → Option Row → List Write
row_writes second name before made =
    if changes_row before made
    then record { name = name; before = before; row = option_map (edited (pos 0)) made; stamp = stamp_made second before made } ∷ []
    else []

-- the write of the grave of a row, if its rows leave graves
abbrev pub grave_writes : RowsByName → Name → Option Name → List Write
grave_writes at name None = []
grave_writes at name (Some grave) = record { name = grave; before = at grave; row = grave_left name; stamp = pos 0 } ∷ []

-- the writes of a row and of its grave, if it goes. What is asked for under the name of a grave is passed over
abbrev pub writes_under : ℤ → RowsByName → Name → Option Row → List Write
writes_under second at name made =
    if is_some (buried_in name.table) then []
    else if goes (at name) made then row_writes second name (at name) made ++ grave_writes at name (grave_name name)
    else row_writes second name (at name) made

-- the writes of all entries of the changes
abbrev pub writes_of : ℤ → RowsByName → List (Name × Option Row) → List Write
writes_of second at [] = []
writes_of second at (entry ∷ entries) = writes_under second at entry.0 entry.1 ++ writes_of second at entries

-- no name is written twice
abbrev pub AreWrittenOnce : List Write → Type 0
AreWrittenOnce writes = IsDistinct (eq_by_cmp name_cmp) (map (λ (write : Write). write.name) writes)

-- what stood there before, if anything, has the name of the write and passes its check
abbrev pub IsReadWrite : Write → Type 0
IsReadWrite write = IfSome write.before (λ row. (name_of row ≡ write.name) × IsChecked row)

-- the writes of all entries, each of them of some rows that were read for it
abbrev pub IsPlanOf : ℤ → List (Name × Option Row) → List Write → Type 0
IsPlanOf second [] writes = writes ≡ []
IsPlanOf second (entry ∷ entries) writes =
    (at : RowsByName) × (rest : List Write) × (writes ≡ writes_under second at entry.0 entry.1 ++ rest) × IsPlanOf second entries rest
