-- Rows as messages bring them: graves as ids, the rows of a chunk and of changes by their kinds.
use Rattle.std.specs.Prelude.{ℤ, pos, negsuc, ◌==◌, nat_lt, List, ◌++◌, map, filter, length, Option, Some, None}
use Rattle.std.specs.List.{filter_map}
use Rattle.std.specs.Option.{option_map}
use Rattle.ak_base.specs.Names.{table_place}
use Rattle.ak_base.specs.Rows.{name_of}
use Rattle.ak_base.specs.declared.names.Table.{Table}
use Rattle.ak_base.specs.declared.names.Table.TheVariants as tables
use Rattle.ak_base.specs.declared.reviews.Review.{Review}
use Rattle.ak_base.specs.declared.rows.Row.{Row}
use Rattle.ak_base.specs.declared.rows.Row.TheVariants as rows
use Rattle.ak_keep.specs.Lookups.{as_note, as_card, as_note_type, as_deck, as_options}
use Rattle.ak_merge.specs.Commits.{Settings, Received}
use Rattle.ak_messages.specs.declared.requests.Changes.{Changes}
use Rattle.ak_messages.specs.declared.requests.Chunk.{Chunk}
use Rattle.ak_messages.specs.declared.requests.GraveIds.{GraveIds}
use Rattle.ak_messages.specs.declared.requests.Newer.{Newer}

-- ---- graves
-- the ids of the rows of this table
abbrev pub ids_in : Table → List Row → List ℤ
ids_in table list =
    map (λ (row : Row). (name_of row).id)
    (filter (λ (row : Row). table_place (name_of row).table == table_place table) list)

-- graves as they travel: the ids of the deleted rows, by kind
abbrev pub grave_ids : List Row → GraveIds
grave_ids list = record {
  cards = ids_in tables.CardGrave list;
  notes = ids_in tables.NoteGrave list;
  decks = ids_in tables.DeckGrave list;
}

-- the grave of this stored code and id, as a side holds it that did not send it yet
abbrev pub grave_with : ℤ → ℤ → Row
grave_with kind id = rows.Grave (record { usn = negsuc 0; oid = id; kind = kind })

-- the graves of these ids: of notes, whose stored code is 1, then of cards, whose code is 0, then of decks, whose code is 2
abbrev pub graves_from : GraveIds → List Row
graves_from ids = map (grave_with (pos 1)) ids.notes ++ (map (grave_with (pos 0)) ids.cards ++ map (grave_with (pos 2)) ids.decks)

-- ---- rows by kind
-- the review, if this is one
abbrev pub as_review : Row → Option Review
as_review (rows.Review r) = Some r
as_review row = None

-- ---- chunks
-- the chunk of these rows: it is done exactly if it has fewer than 250
abbrev pub chunk_of : List Row → Chunk
chunk_of list = record {
  done = nat_lt (length list) 250;
  reviews = filter_map as_review list;
  cards = filter_map as_card list;
  notes = filter_map as_note list;
}

-- the rows of a chunk: reviews, then cards, then notes
abbrev pub chunk_rows : Chunk → List Row
chunk_rows chunk = map rows.Review chunk.reviews ++ (map rows.Card chunk.cards ++ map rows.Note chunk.notes)

-- ---- changes
-- the settings of a message
abbrev pub settings_in : Newer → Settings
settings_in newer = record { conf = newer.conf; crt = newer.crt }

-- settings as a message has them
abbrev pub newer_of : Settings → Newer
newer_of settings = record { conf = settings.conf; crt = settings.crt }

-- the changes of these rows, tags and settings
abbrev pub changes_of : Received → Changes
changes_of changed = record {
  models = filter_map as_note_type changed.rows;
  decks = filter_map as_deck changed.rows;
  options = filter_map as_options changed.rows;
  tags = changed.tags;
  newer = option_map newer_of changed.settings;
}

-- the rows of changes: note types, then decks, then options
abbrev pub change_rows : Changes → List Row
change_rows changes = map rows.NoteType changes.models ++ (map rows.Deck changes.decks ++ map rows.Options changes.options)
