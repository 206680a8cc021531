-- The notes of a type.
use Rattle.std.specs.Prelude.{ℤ, pos, if◌then◌else◌, List, Option, Some, None}
use Rattle.std.specs.List.{filter_map}
use Rattle.std.specs.Ordering.{int_eq}
use Rattle.ak_base.specs.declared.names.Table.TheVariants as tables
use Rattle.ak_base.specs.declared.notes.Note.{Note}
use Rattle.ak_base.specs.declared.rows.Row.{Row}
use Rattle.ak_base.specs.declared.rows.Row.TheVariants as rows
use Rattle.ak_keep.specs.Collections.{Rows, rows_past}

-- the row, if it is a note of the type of this id
abbrev pub note_of_type : ℤ → Row → Option Note
note_of_type note_type (rows.Note note) = if int_eq note.mid note_type then Some note else None
note_of_type note_type (rows.Card card) = None
note_of_type note_type (rows.Review review) = None
note_of_type note_type (rows.NoteType other) = None
note_of_type note_type (rows.Deck deck) = None
note_of_type note_type (rows.Options options) = None
note_of_type note_type (rows.Grave grave) = None

-- the notes of the type that are held, by ascending id: an id is at least 1
abbrev pub notes_of_type : ℤ → Rows → List Note
notes_of_type note_type held = filter_map (note_of_type note_type) (rows_past tables.Note (pos 0) held)
