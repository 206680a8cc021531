use Rattle.std.proofs.lemmas.Result.{err_from_is_err_and}
use Rattle.std.proofs.lemmas.Int.{to_z-of_z}
use Rattle.std.proofs.Common.{ℤ, rules, w64, SFits}
use Rattle.ak_base.specs.declared.names.Table.TheVariants as tables
use Rattle.ak_keep.specs.Keepers.{WhereTold}
use Rattle.ak_keep.specs.Lookups.{note_at}
use Rattle.ak_merge.specs.Holdings.{name_in}
use Rattle.ak_notes.proofs.AddedNotes.{if_ok-map}
use Rattle.ak_notes.proofs.EditedNotes.{of_note}
use Rattle.ak_notes.proofs.Needing.{needs_answer, needs_none}
use Rattle.ak_notes.specs.NoteEdits.{IsChangedFor, IsChangedOf, RefusesForNote}
use Rattle.ak_notes.specs.declared.made_notes.MadeNote.{MadeNote}
use Rattle.ak_notes.proofs.note_edits.read_edit.Goals as goal

pub returns-in_err-note-clause-refused : goal.returns-in_err-note-clause-refused
returns-in_err-note-clause-refused g c =
    let id : ℤ = c.args.given.now.note in
    let fits : SFits w64 id = search rules in
    let p = err_from_is_err_and c.from_residual.result c.from_residual.ensures.1 in
    rw (p.1, p.2) (needs_none MadeNote (g.K.Lookup.keeping c.args.keeper.now) (λ rows. note_at rows id) (name_in tables.Note id)
    (λ rows note. RefusesForNote c.args.at c.args.given.now note rows) c.in_err-note.field-0.0 (rw (to_z-of_z w64 id fits) at c.in_err-note.ensures.missing))

pub returns-clause-refused : goal.returns-clause-refused
returns-clause-refused g c =
    let id : ℤ = c.args.given.now.note in
    let fits : SFits w64 id = search rules in
    let at : SFits w64 c.args.at = c.ranges.at in
    needs_answer (g.K.Lookup.keeping c.args.keeper.now) (λ rows. note_at rows id) c.in_ok-note.note (name_in tables.Note id)
    (λ rows note. RefusesForNote c.args.at c.args.given.now note rows) c.read_for_note.result (rw (to_z-of_z w64 id fits) at c.in_ok-note.ensures.found)
    (rw (c.held_note.ensures.same, to_z-of_z w64 c.args.at at) at c.read_for_note.ensures.refused)

pub returns-clause-made : goal.returns-clause-made
returns-clause-made g c =
    let k = g.K.Lookup.keeping c.args.keeper.now in
    let id : ℤ = c.args.given.now.note in
    let fits : SFits w64 id = search rules in
    let at : SFits w64 c.args.at = c.ranges.at in
    if_ok-map c.read_for_note.result (λ made. WhereTold k (IsChangedFor c.args.at c.in_ok-note.note c.args.given.now made)) (λ made. WhereTold k (IsChangedOf c.args.at c.args.given.now made))
    (λ made. of_note k c.args.at c.args.given.now c.in_ok-note.note made (rw (to_z-of_z w64 id fits) at c.in_ok-note.ensures.found))
    (rw (c.held_note.ensures.same, to_z-of_z w64 c.args.at at) at c.read_for_note.ensures.made)
