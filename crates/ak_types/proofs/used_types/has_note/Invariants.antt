use Rattle.std.proofs.Common.{◌≡◌, drop}
use Rattle.std.specs.List.{list_any}
use Rattle.ak_types.specs.GivenTypes.{is_note_of}
use Rattle.ak_types.proofs.used_types.has_note.Given as goal

-- none of the rows so far is one
abbrev pub invariant-loop-row : goal.invariant-loop-row
invariant-loop-row l = list_any (is_note_of l.note_type) (drop l.row-index l.rows) ≡ list_any (is_note_of l.note_type) l.rows
