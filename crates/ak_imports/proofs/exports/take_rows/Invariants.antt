use Rattle.std.proofs.Common.{◌≡◌, ◌++◌, filter_map, length}
use Rattle.ak_imports.specs.NotesOfTypes.{note_of_type}
use Rattle.ak_imports.proofs.exports.take_rows.Given as goal

-- the notes so far, and those of the rows that are left, are those of all rows
abbrev pub invariant-loop-row : goal.invariant-loop-row
invariant-loop-row l = l.notes ++ filter_map (note_of_type l.note_type) l.rest ≡ l.fn.notes ++ filter_map (note_of_type l.note_type) l.rows

abbrev pub decreases-loop-row : goal.decreases-loop-row
decreases-loop-row l = length l.rest
