use Rattle.std.proofs.Common.{◌≡◌, ◌++◌, drop}
use Rattle.std.specs.String.{string_bytes}
use Rattle.ak_notes.specs.NoteRows.{led_by}
use Rattle.ak_notes.proofs.note_rows.add_fields.Given as goal

-- with the other fields, the text so far is all
abbrev pub invariant-loop-field : goal.invariant-loop-field
invariant-loop-field l = string_bytes l.text ++ led_by 31 (drop l.field-index l.fields) ≡ string_bytes l.fn.text ++ led_by 31 l.fields
