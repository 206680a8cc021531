use Rattle.std.proofs.lemmas.Result.{err_from_is_err_and}
use Rattle.std.proofs.lemmas.Int.{to_z-of_z}
use Rattle.std.proofs.Common.{w64, SFits}
use Rattle.ak_base.specs.declared.names.Table.TheVariants as tables
use Rattle.ak_base.specs.declared.notes.Note.{Note}
use Rattle.ak_faults.proofs.Healths.{cause_after}
use Rattle.ak_keep.specs.Keepers.{WhereTold}
use Rattle.ak_keep.specs.Lookups.{type_of_note}
use Rattle.ak_merge.specs.Holdings.{name_in}
use Rattle.ak_notes.proofs.AddedNotes.{if_ok-map}
use Rattle.ak_notes.proofs.EditedNotes.{of_type, type_listed}
use Rattle.ak_notes.proofs.Needing.{needs_answer, needs_none}
use Rattle.ak_notes.specs.NoteEdits.{IsChangedFor, IsChangedTo, RefusesForType}
use Rattle.ak_notes.specs.declared.made_notes.MadeNote.{MadeNote}
use Rattle.ak_notes.proofs.note_edits.read_for_note.Goals as goal

pub returns-in_err-note_type-clause-refused : goal.returns-in_err-note_type-clause-refused
returns-in_err-note_type-clause-refused g c =
    let note : Note = c.args.note in
    let p = err_from_is_err_and c.from_residual.result c.from_residual.ensures.1 in
    rw (p.1, p.2) (needs_none MadeNote (g.K.Lookup.keeping c.args.keeper.now) (λ rows. type_of_note rows note) (name_in tables.NoteType note.mid)
    (λ rows note_type. RefusesForType c.args.at c.args.given.now note_type rows) c.in_err-note_type.field-0.0 c.in_err-note_type.ensures.missing)

pub returns-in_err-note_type-clause-listed : goal.returns-in_err-note_type-clause-listed
returns-in_err-note_type-clause-listed g c =
    let p = err_from_is_err_and c.from_residual.result c.from_residual.ensures.1 in
    rw (p.1, p.2) (type_listed (g.K.Lookup.keeping c.args.keeper.now) c.args.given.now c.args.note c.in_err-note_type.field-0.0 c.in_err-note_type.ensures.missing)

pub returns-clause-refused : goal.returns-clause-refused
returns-clause-refused g c =
    let note : Note = c.args.note in
    let at : SFits w64 c.args.at = c.ranges.at in
    needs_answer (g.K.Lookup.keeping c.args.keeper.now) (λ rows. type_of_note rows note) c.in_ok-note_type.note_type (name_in tables.NoteType note.mid)
    (λ rows note_type. RefusesForType c.args.at c.args.given.now note_type rows) c.read_for_type.result c.in_ok-note_type.ensures.found
    (rw (c.held_type_of.ensures.same, to_z-of_z w64 c.args.at at) at c.read_for_type.ensures.refused)

pub returns-clause-made : goal.returns-clause-made
returns-clause-made g c =
    let k = g.K.Lookup.keeping c.args.keeper.now in
    let at : SFits w64 c.args.at = c.ranges.at in
    if_ok-map c.read_for_type.result (λ made. WhereTold k (IsChangedTo c.args.at c.args.note c.in_ok-note_type.note_type c.args.given.now made))
    (λ made. WhereTold k (IsChangedFor c.args.at c.args.note c.args.given.now made))
    (λ made. of_type k c.args.at c.args.note c.in_ok-note_type.note_type c.args.given.now made c.in_ok-note_type.ensures.found)
    (rw (c.held_type_of.ensures.same, to_z-of_z w64 c.args.at at) at c.read_for_type.ensures.made)

pub returns-clause-cause : goal.returns-clause-cause
returns-clause-cause g c = cause_after c.in_ok-note_type.ensures.cause.goes c.read_for_type.ensures.cause
