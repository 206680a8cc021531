-- What a card is found by.
use Rattle.std.specs.Prelude.{Option, Some, None}
use Rattle.ak_base.specs.declared.rows.Row.{Row}
use Rattle.ak_base.specs.declared.rows.Row.TheVariants as rows
use Rattle.ak_memory.specs.declared.held_rows.FoundBy.{FoundBy}

-- what a row is found by, if it is a card
abbrev pub found_by : Row → Option FoundBy
found_by (rows.Note n) = None
found_by (rows.Card c) = Some (record { note = c.nid; queue = c.queue; due = c.due })
found_by (rows.Review r) = None
found_by (rows.NoteType t) = None
found_by (rows.Deck d) = None
found_by (rows.Options o) = None
found_by (rows.Grave g) = None
