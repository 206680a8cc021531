use Rattle.std.proofs.lemmas.Result.{err_from_is_err_and}
use Rattle.ak_keep.specs.Keepers.{WhereTold}
use Rattle.ak_notes.proofs.AddedNotes.{given_cause, given_listed, if_ok-map}
use Rattle.ak_notes.proofs.EditedNotes.{of_shown, shown_pass}
use Rattle.ak_notes.proofs.Needing.{test_refuses}
use Rattle.ak_notes.specs.LackingNotes.{lacked_ords}
use Rattle.ak_notes.specs.NewCards.{RefusesCardIds, RefusesFronts}
use Rattle.ak_notes.specs.NoteEdits.{IsChangedTo, IsChangedWith, lacking_note}
use Rattle.ak_notes.specs.declared.made_notes.MadeNote.{MadeNote}
use Rattle.ak_notes.proofs.note_edits.make_edit.Goals as goal

pub returns-in_err-shown-clause-refused : goal.returns-in_err-shown-clause-refused
returns-in_err-shown-clause-refused g c =
    let e = c.args.editing.now in
    let p = err_from_is_err_and c.from_residual.result c.from_residual.ensures.1 in
    rw (p.1, p.2) (test_refuses MadeNote (g.K.Lookup.keeping c.args.keeper.now) (RefusesFronts e.note_type.now)
    (λ rows. RefusesCardIds e.at (λ shown. lacked_ords (lacking_note e.given.now.note shown rows)) e.note_type.now e.given.now.fields rows) c.in_err-shown.field-0.0 c.in_err-shown.ensures.refused)

pub returns-in_err-shown-clause-listed : goal.returns-in_err-shown-clause-listed
returns-in_err-shown-clause-listed g c =
    let p = err_from_is_err_and c.from_residual.result c.from_residual.ensures.1 in
    rw (p.1, p.2) (given_listed c.in_err-shown.field-0.0 c.in_err-shown.ensures.listed)

pub returns-in_err-shown-clause-cause : goal.returns-in_err-shown-clause-cause
returns-in_err-shown-clause-cause g c =
    let p = err_from_is_err_and c.from_residual.result c.from_residual.ensures.1 in
    rw (p.1, p.2) (given_cause (g.K.Lookup.health c.args.keeper.now) c.in_err-shown.field-0.0 c.in_err-shown.ensures.listed)

pub returns-clause-refused : goal.returns-clause-refused
returns-clause-refused g c =
    let e = c.args.editing.now in
    shown_pass (g.K.Lookup.keeping c.args.keeper.now) e.at e.given.now e.note_type.now c.in_ok-shown.shown c.make_shown.result c.in_ok-shown.ensures.refused c.in_ok-shown.ensures.ords c.make_shown.ensures.refused

pub returns-clause-made : goal.returns-clause-made
returns-clause-made g c =
    let e = c.args.editing.now in
    let k = g.K.Lookup.keeping c.args.keeper.now in
    if_ok-map c.make_shown.result (λ made. WhereTold k (IsChangedWith e.at c.args.note e.note_type.now e.given.now c.in_ok-shown.shown made))
    (λ made. WhereTold k (IsChangedTo e.at c.args.note e.note_type.now e.given.now made))
    (λ made. of_shown k e.at c.args.note e.note_type.now e.given.now c.in_ok-shown.shown made c.in_ok-shown.ensures.ords) c.make_shown.ensures.made
