-- The rows that the chunks of a session still give.
use Rattle.std.specs.List.{AllByRecursion}
use Rattle.std.specs.Prelude.{◌≡◌, ℕ, ℤ, pos, ◌≤◌, ◌⊎◌, nat_lt, if◌then◌else◌, Bool, true, false, List, [], ◌++◌, length}
use Rattle.ak_base.specs.Rows.{name_of}
use Rattle.ak_base.specs.declared.names.Name.{Name}
use Rattle.ak_base.specs.declared.names.Table.{Table}
use Rattle.ak_base.specs.declared.names.Table.TheVariants as tables
use Rattle.ak_base.specs.declared.rows.Row.{Row}
use Rattle.ak_keep.specs.Collections.{Rows, wanted_past, last_id}
use Rattle.ak_keep.specs.declared.keepers.Wanted.{Wanted}

-- the wanted rows after a place, which is a table and an id: reviews, then cards, then notes. After the notes there are none
abbrev pub rows_after : Wanted → Table → ℤ → Rows → List Row
rows_after want tables.Review id held =
    wanted_past tables.Review want id held ++ (wanted_past tables.Card want (pos 0) held ++ wanted_past tables.Note want (pos 0) held)
rows_after want tables.Card id held = wanted_past tables.Card want id held ++ wanted_past tables.Note want (pos 0) held
rows_after want tables.Note id held = wanted_past tables.Note want id held
rows_after want tables.NoteType id held = []
rows_after want tables.Deck id held = []
rows_after want tables.Options id held = []
rows_after want tables.NoteGrave id held = []
rows_after want tables.CardGrave id held = []
rows_after want tables.DeckGrave id held = []

-- the same of a place as a name
abbrev pub ahead_of : Wanted → Name → Rows → List Row
ahead_of want given held = rows_after want given.table given.id held

-- whether rows of this table are given by chunks
abbrev pub is_chunked : Table → Bool
is_chunked tables.Review = true
is_chunked tables.Card = true
is_chunked tables.Note = true
is_chunked tables.NoteType = false
is_chunked tables.Deck = false
is_chunked tables.Options = false
is_chunked tables.NoteGrave = false
is_chunked tables.CardGrave = false
is_chunked tables.DeckGrave = false

-- rows of tables that are given by chunks: reviews, cards and notes
abbrev pub AreChunked : List Row → Type 0
AreChunked rows = AllByRecursion (λ (row : Row). is_chunked (name_of row).table ≡ true) rows

-- the table whose rows come after those of a table; after the notes that of their graves, whose rows no chunk gives
abbrev pub table_after : Table → Table
table_after tables.Review = tables.Card
table_after tables.Card = tables.Note
table_after tables.Note = tables.NoteGrave
table_after tables.NoteType = tables.NoteGrave
table_after tables.Deck = tables.NoteGrave
table_after tables.Options = tables.NoteGrave
table_after tables.NoteGrave = tables.NoteGrave
table_after tables.CardGrave = tables.NoteGrave
table_after tables.DeckGrave = tables.NoteGrave

-- the place after a page of at most so many rows: in the next table if the page is not full
abbrev pub place_after : Name → List Row → ℕ → Name
place_after given page limit =
    if nat_lt (length page) limit then record { table = table_after given.table; id = pos 0 }
    else record { table = given.table; id = last_id given.id page }

-- rows up to a place, at most 250, and the rows after it: fewer than 250 only if none are left
pub record IsSlice (all rows rest : List Row) : Type 0 where
  pub whole : all ≡ rows ++ rest
  pub short : length rows ≤ 250
  pub full : (length rows ≡ 250) ⊎ (rest ≡ [])
