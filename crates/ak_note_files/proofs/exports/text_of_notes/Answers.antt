use Rattle.std.proofs.Common.{◌≡◌, ◌∷◌, rules}
use Rattle.ak_csv.specs.NoteRecords.{note_text, notes_text}
use Rattle.ak_note_files.proofs.Writing.{one_written}
use Rattle.ak_note_files.proofs.exports.text_of_notes.Goals as goal

pub loop-note-preserved : goal.loop-note-preserved
loop-note-preserved c =
    let rest : c.loop-note.rest.now ≡ c.in-Some.note.now ∷ c.in-Some.others.now = search rules in
    one_written c.loop-note.text.items c.add_record.new.text.items (notes_text c.args.fields c.args.notes.now)
    (note_text c.args.fields c.in-Some.note.now) (notes_text c.args.fields c.in-Some.others.now) (rw rest at c.loop-note.invariant) c.in_ok-add_record.ensures
