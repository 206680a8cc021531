use Rattle.std.proofs.Common.{◌≡◌, ◌++◌, length}
use Rattle.ak_csv.specs.NoteRecords.{notes_text}
use Rattle.ak_note_files.proofs.exports.text_of_notes.Given as goal

-- the records so far, and those of the notes that are left, are those of all notes
abbrev pub invariant-loop-note : goal.invariant-loop-note
invariant-loop-note l = l.text.items ++ notes_text l.fn.fields l.rest ≡ notes_text l.fn.fields l.notes

abbrev pub decreases-loop-note : goal.decreases-loop-note
decreases-loop-note l = length l.rest
