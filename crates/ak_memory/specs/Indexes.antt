-- What is kept beside the places, so that nobody walks over a table, or over places that were not changed.
use Rattle.std.specs.Prelude.{◌≡◌, ℕ, ◌+◌, ◌≤◌, true, List, length, slice_index}
use Rattle.std.specs.Vec.{vec_capacity, vec_len}
use Rattle.ak_base.specs.Names.{table_place}
use Rattle.ak_base.specs.declared.names.Name.{Name}
use Rattle.ak_base.specs.declared.names.Table.{Table}
use Rattle.ak_keep.specs.Collections.{Rows, StandsUnderNames, row_count}
use Rattle.ak_memory.specs.CardKeys.{HaveKeys}
use Rattle.ak_memory.specs.Places.{AreFull, is_among, is_changed_under, row_under, rows_at, unchanged_count}
use Rattle.ak_memory.specs.TakenRuns.{AreRuns, is_used_under}
use Rattle.ak_memory.specs.declared.card_keys.CardKeys.{CardKeys}
use Rattle.ak_memory.specs.declared.indexed.IndexedPlaces.{IndexedPlaces}
use Rattle.ak_memory.specs.declared.places.Place.{Place}
use Rattle.ak_memory.specs.declared.versions.Version.{Version}
use Rattle.ak_memory.specs.declared.versions.Version.TheVariants.{Now, Mark}

-- at each table's place, how many rows the table has
abbrev pub AreCounts : List ℕ → Rows → Type 0
AreCounts counts rows = (table : Table) → slice_index counts (table_place table) ≡ row_count table rows

-- each card has its keys, one that is held now and one that was held at the mark
abbrev pub HaveAllKeys : CardKeys → List (Name × Place) → Type 0
HaveAllKeys keys places = (version : Version) → HaveKeys keys (row_under version places)

-- each place that was changed is noted
abbrev pub AreNoted : List Name → List (Name × Place) → Type 0
AreNoted noted places = (name : Name) → is_changed_under places name ≡ true → is_among noted name ≡ true

-- how many rows each of the nine tables has is counted, and each row is under its own name
pub record IsCounted (numbers : List ℕ) (rows : Rows) : Type 0 where
  pub nine : length numbers ≡ 9
  pub counts : AreCounts numbers rows
  pub named : StandsUnderNames rows

-- the rows of a version
abbrev pub rows_of : Version → IndexedPlaces → Rows
rows_of version indexed = rows_at version indexed.places.entries

-- what is kept beside the places is right, none of them is empty, and there is room to note each place that was not changed yet
pub record IsIndexed (indexed : IndexedPlaces) : Type 0 where
  pub current : IsCounted indexed.counts (rows_of Now indexed)
  pub mark : IsCounted indexed.mark_counts (rows_of Mark indexed)
  pub keys : HaveAllKeys indexed.cards indexed.places.entries
  pub noted : AreNoted indexed.noted.items indexed.places.entries
  pub full : AreFull indexed.places.entries
  pub room : vec_len indexed.noted + unchanged_count indexed.places.entries ≤ vec_capacity indexed.noted
  pub taken : AreRuns (is_used_under indexed.places.entries) indexed.taken
