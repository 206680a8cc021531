use Rattle.std.proofs.Common.{ℤ, rules, w64, SFits}
use Rattle.std.proofs.lemmas.Int.{to_z-of_z}
use Rattle.std.proofs.lemmas.Result.{err_from_is_err_and}
use Rattle.ak_notes.proofs.AddedNotes.{id_listed, later_cause, of_parts}
use Rattle.ak_notes.proofs.Needing.{told_answer, told_refusal}
use Rattle.ak_notes.specs.NewCards.{RefusesIds, at_least_one}
use Rattle.ak_notes.specs.declared.made_notes.MadeNote.{MadeNote}
use Rattle.ak_notes.specs.declared.new_cards.MadeCards.{MadeCards}
use Rattle.ak_notes.proofs.additions.make_told.Goals as goal

pub returns-in_err-made-clause-refused : goal.returns-in_err-made-clause-refused
returns-in_err-made-clause-refused g c =
    let at : ℤ = c.args.making.now.at in
    let fits : SFits w64 at = search rules in
    let p = err_from_is_err_and c.from_residual-in_err-made.result c.from_residual-in_err-made.ensures.1 in
    rw (p.1, p.2)
    (told_refusal MadeCards MadeNote (g.K.Lookup.keeping c.args.keeper.now) (RefusesIds at (at_least_one c.args.told)) c.in_err-made.field-0.0
    (rw (c.in_ok-before.ensures.reads.same, c.in_ok-ords.ensures, c.first_name-start.ensures.name, to_z-of_z w64 at fits) at c.in_err-made.ensures.refused))

pub returns-in_err-made-clause-listed : goal.returns-in_err-made-clause-listed
returns-in_err-made-clause-listed g c =
    let p = err_from_is_err_and c.from_residual-in_err-made.result c.from_residual-in_err-made.ensures.1 in
    rw (p.1, p.2) (id_listed c.in_err-made.field-0.0 c.in_err-made.ensures.listed)

pub returns-in_err-made-clause-cause : goal.returns-in_err-made-clause-cause
returns-in_err-made-clause-cause g c =
    let p = err_from_is_err_and c.from_residual-in_err-made.result c.from_residual-in_err-made.ensures.1 in
    rw (p.1, p.2) (later_cause _ _ _ c.in_err-made.field-0.0 c.in_ok-before.ensures.reads.cause.goes c.in_err-made.ensures.cause)

pub returns-clause-made : goal.returns-clause-made
returns-clause-made g c =
    let m = c.args.making.now in
    let at : ℤ = c.args.making.now.at in
    let fits : SFits w64 at = search rules in
    let made : MadeNote = record { note = c.in_ok-note.note; cards = c.in_ok-made.made.cards; conf = c.conf_after-conf.result } in
    of_parts (g.K.Lookup.keeping c.args.keeper.now) m.at m.note_type.now m.new.now c.args.name c.args.told c.in_ok-before.before made c.in_ok-before.ensures.reads.told
    (rw (c.place_for-place.ensures, c.in_ok-before.ensures.reads.same, c.in_ok-ords.ensures, c.first_name-start.ensures.name, to_z-of_z w64 at fits) at c.in_ok-made.ensures.made) c.in_ok-note.ensures (rw c.as_slice.ensures at c.conf_after-conf.ensures.conf)

pub returns-clause-refused : goal.returns-clause-refused
returns-clause-refused g c =
    let at : ℤ = c.args.making.now.at in
    let fits : SFits w64 at = search rules in
    let made : MadeNote = record { note = c.in_ok-note.note; cards = c.in_ok-made.made.cards; conf = c.conf_after-conf.result } in
    told_answer (g.K.Lookup.keeping c.args.keeper.now) (RefusesIds at (at_least_one c.args.told)) c.in_ok-made.made made
    (rw (c.in_ok-before.ensures.reads.same, c.in_ok-ords.ensures, c.first_name-start.ensures.name, to_z-of_z w64 at fits) at c.in_ok-made.ensures.refused)
