-- The parts in which a side gives what is wanted: the graves, the changes, and the slices of one list of rows.
use Rattle.std.specs.Prelude.{ℕ, pos, ◌+◌, ◌*◌, ◌/◌, List, ◌++◌, map, length, take, drop}
use Rattle.std.specs.Int.{div_ceil}
use Rattle.std.specs.List.{range_with_len, flat_map}
use Rattle.ak_base.specs.declared.names.Table.{Table}
use Rattle.ak_base.specs.declared.names.Table.TheVariants as tables
use Rattle.ak_base.specs.declared.rows.Row.{Row}
use Rattle.ak_keep.specs.Collections.{Rows, wanted_past}
use Rattle.ak_keep.specs.declared.keepers.Wanted.{Wanted}

-- the wanted rows of one table, then of another, then of a third, by id. Ids are over 0
abbrev pub wanted_of : Table → Table → Table → Wanted → Rows → List Row
wanted_of one two three want held =
    wanted_past one want (pos 0) held ++ (wanted_past two want (pos 0) held ++ wanted_past three want (pos 0) held)

-- the wanted graves: of notes, then of cards, then of decks
abbrev pub wanted_graves : Wanted → Rows → List Row
wanted_graves = wanted_of tables.NoteGrave tables.CardGrave tables.DeckGrave

-- the wanted rows that are not sent by chunks: note types, then decks, then options
abbrev pub wanted_changes : Wanted → Rows → List Row
wanted_changes = wanted_of tables.NoteType tables.Deck tables.Options

-- the wanted rows that are sent by chunks: reviews, then cards, then notes
abbrev pub wanted_in_chunks : Wanted → Rows → List Row
wanted_in_chunks = wanted_of tables.Review tables.Card tables.Note

-- the rows at places from 250 k to below 250 (k + 1)
abbrev pub slice : ℕ → List Row → List Row
slice k list = take 250 (drop (250 * k) list)

-- this number of slices, from the first on
abbrev pub slices : ℕ → List Row → List (List Row)
slices count list = map (λ (k : ℕ). slice k list) (range_with_len 0 count)

-- the slices that have a row
abbrev pub filled_slices : List Row → List (List Row)
filled_slices list = slices (div_ceil (length list) 250) list

-- the slices up to the first that is not full, which may be empty
abbrev pub slices_until_short : List Row → List (List Row)
slices_until_short list = slices (length list / 250 + 1) list

-- the rows of these slices, one slice after the other
abbrev pub joined_parts : List (List Row) → List Row
joined_parts parts = flat_map (λ (part : List Row). part) parts
