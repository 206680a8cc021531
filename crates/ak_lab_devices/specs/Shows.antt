-- What `show` and `count` print of a collection.
use Rattle.std.specs.Prelude.{ℕ, pos, List, ◌++◌, map, codes, [], ◌∷◌}
use Rattle.std.specs.Fmt.{signed_decimal}
use Rattle.serde_json.specs.Data.{Data, array, string}
use Rattle.serde_json.specs.View.{items_of}
use Rattle.serde_json.specs.Written.{compact_text}
use Rattle.ak_base.specs.Rows.{with_usn}
use Rattle.ak_base.specs.declared.heads.Head.{Head}
use Rattle.ak_base.specs.declared.heads.Tag.{Tag}
use Rattle.ak_base.specs.declared.names.Table.{Table}
use Rattle.ak_base.specs.declared.names.Table.TheVariants as tables
use Rattle.ak_base.specs.declared.rows.Row.{Row}
use Rattle.ak_json.specs.Confs.{conf_json}
use Rattle.ak_json.specs.Rows.{row_json}
use Rattle.ak_keep.specs.Collections.{Collection, Rows, rows_past}
use Rattle.ak_lab_lines.specs.declared.lab_lines.Shown.{Shown}
use Rattle.ak_lab_lines.specs.declared.lab_lines.Shown.TheVariants as shown

-- ---- rows
-- a row as it is shown: its JSON text, with the usn 0
abbrev pub row_text : Row → List ℕ
row_text row = compact_text (row_json (with_usn row (pos 0)))

-- the lines of a table: each of its rows, by ascending id. Ids begin at 1
abbrev pub table_lines : Table → Rows → List (List ℕ)
table_lines table held = map row_text (rows_past table (pos 0) held)

-- the lines of the graves: those of notes, then of cards, then of decks
abbrev pub grave_lines : Rows → List (List ℕ)
grave_lines held =
    table_lines tables.NoteGrave held ++ table_lines tables.CardGrave held ++ table_lines tables.DeckGrave held

-- ---- the head
-- the names of the tags, as a list
abbrev pub tags_json : List Tag → Data
tags_json tags = array (items_of (map (λ (tag : Tag). string tag.name) tags))

-- the line of a head: an object of its settings, its moment of creation and the names of its tags
abbrev pub head_line : Head → List ℕ
head_line head =
    codes "{\"conf\":" ++ compact_text (conf_json head.conf) ++ codes ",\"crt\":" ++ signed_decimal head.crt
    ++ codes ",\"tags\":" ++ compact_text (tags_json head.tags) ++ codes "}"

-- ---- by what a line names
-- the lines of what is shown of a collection
abbrev pub shown_lines : Shown → Collection → List (List ℕ)
shown_lines (shown.Rows table) c = table_lines table c.rows
shown_lines shown.Graves c = grave_lines c.rows
shown_lines shown.Head c = head_line c.head ∷ []
