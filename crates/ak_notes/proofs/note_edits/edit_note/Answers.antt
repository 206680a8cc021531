use Rattle.std.proofs.lemmas.Int.{to_z-of_z}
use Rattle.std.proofs.lemmas.Result.{err_from_is_err_and}
use Rattle.std.proofs.Common.{w64, SFits, inr}
use Rattle.ak_edit_calls.proofs.Answering.{on_ok-map}
use Rattle.ak_edit.specs.Ends.{FinishedBy}
use Rattle.ak_notes.proofs.AddedNotes.{outside_told}
use Rattle.ak_notes.proofs.EditedNotes.{edit_answered, edit_done, edit_tested, ends_listed}
use Rattle.ak_notes.specs.NoteEdits.{DoesEditNote, RefusesNoteEdit}
use Rattle.ak_notes.proofs.note_edits.edit_note.Goals as goal

pub returns-in_err-made-clause-refused : goal.returns-in_err-made-clause-refused
returns-in_err-made-clause-refused g c =
    let at : SFits w64 c.args.at = c.ranges.at in
    let p = err_from_is_err_and c.from_residual.result c.from_residual.ensures.1 in
    rw (p.1, p.2) (edit_tested (g.K.Lookup.keeping c.args.keeper.now) c.args.at c.args.given.now c.in_err-made.field-0.0 (rw (to_z-of_z w64 c.args.at at) at c.in_err-made.ensures.refused))

pub returns-clause-ok : goal.returns-clause-ok
returns-clause-ok g c =
    let k = g.K.Lookup.keeping c.args.keeper.now in
    let given = c.args.given.now in
    let at : SFits w64 c.args.at = c.ranges.at in
    let o = c.put_made.new.change in
    let now = g.K.Lookup.keeping c.finish.new.keeper in
    on_ok-map c.finish.result (FinishedBy c.args.at o k now c.args.steps.now c.finish.new.steps) (DoesEditNote c.args.at given k now c.args.steps.now c.finish.new.steps)
    (edit_done k now c.args.at given c.in_ok-made.made o c.args.steps.now c.finish.new.steps
    (rw (to_z-of_z w64 c.args.at at) at c.in_ok-made.ensures.made) (rw c.new-change.ensures at c.in_ok-put_made.ensures))
    (rw (c.read_edit.ensures.same, to_z-of_z w64 c.args.at at) at c.finish.ensures.ok)

pub returns-clause-refused : goal.returns-clause-refused
returns-clause-refused g c =
    let k = g.K.Lookup.keeping c.args.keeper.now in
    let given = c.args.given.now in
    let at : SFits w64 c.args.at = c.ranges.at in
    edit_answered k c.args.at given c.in_ok-made.made c.put_made.new.change c.finish.result (rw c.new-change.ensures at c.in_ok-put_made.ensures)
    (rw (to_z-of_z w64 c.args.at at) at c.in_ok-made.ensures.made) (rw (to_z-of_z w64 c.args.at at) at c.in_ok-made.ensures.refused)
    (rw (c.read_edit.ensures.same, to_z-of_z w64 c.args.at at) at c.finish.ensures.refused)

pub returns-in_err-put_made-clause-refused : goal.returns-in_err-put_made-clause-refused
returns-in_err-put_made-clause-refused g c =
    let p = err_from_is_err_and c.from_residual-in_err-put_made.result c.from_residual-in_err-put_made.ensures.1 in
    rw p.1 (outside_told (Unit {0}) (g.K.Lookup.keeping c.args.keeper.now) (RefusesNoteEdit c.args.at c.args.given.now) p.0 (inr p.2))

pub returns-clause-listed : goal.returns-clause-listed
returns-clause-listed g c = ends_listed c.args.given.now c.finish.result c.finish.ensures.listed
