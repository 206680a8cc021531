use Rattle.std.proofs.Common.{◌⊎◌, w64, SFits, rules}
use Rattle.std.proofs.lemmas.Int.{to_z-of_z}
use Rattle.std.proofs.lemmas.Result.{err_from_is_err_and}
use Rattle.ak_edit.specs.Refusals.{IsFromOutside}
use Rattle.ak_faults.proofs.Healths.{goes_further}
use Rattle.ak_imports.proofs.Taking.{add_refused, added_refused, adds, exits, memory_cause}
use Rattle.ak_imports.specs.UnderWay.{RefusesNew}
use Rattle.ak_imports.specs.declared.imports.Outcome.TheVariants as outcomes
use Rattle.ak_notes.proofs.AddedNotes.{later_cause, ok_cause}
use Rattle.ak_imports.proofs.works.add_note.Goals as goal

pub returns-in_err-made-clause-refused : goal.returns-in_err-made-clause-refused
returns-in_err-made-clause-refused g c =
    let at : SFits w64 c.args.arrival.at = search rules in
    let k = g.K.Lookup.keeping c.args.keeper.now in
    exits c.from_residual.result c.in_err-made.field-0.0 (λ fault. IsFromOutside fault ⊎ RefusesNew c.args.arrival c.args.note_record c.args.work.now k fault)
    c.from_residual.ensures.1
    (add_refused k c.args.arrival c.args.note_record c.args.work.now c.in_err-made.field-0.0
    (rw (c.new_note-new.ensures, to_z-of_z w64 c.args.arrival.at at) at c.in_err-made.ensures.refused))

pub returns-in_err-take_made-clause-refused : goal.returns-in_err-take_made-clause-refused
returns-in_err-take_made-clause-refused g c =
    let at : SFits w64 c.args.arrival.at = search rules in
    let k = g.K.Lookup.keeping c.args.keeper.now in
    exits c.from_residual-in_err-take_made.result c.in_err-take_made.field-0.0 (λ fault. IsFromOutside fault ⊎ RefusesNew c.args.arrival c.args.note_record c.args.work.now k fault)
    c.from_residual-in_err-take_made.ensures.1
    (added_refused k c.args.arrival c.args.note_record c.args.work.now c.in_ok-made.made c.in_err-take_made.field-0.0
    (rw (c.new_note-new.ensures, to_z-of_z w64 c.args.arrival.at at) at c.in_ok-made.ensures.made, rw (c.new_note-new.ensures, to_z-of_z w64 c.args.arrival.at at) at c.in_ok-made.ensures.refused)
    (rw (c.read_addition.ensures.same, to_z-of_z w64 c.args.arrival.at at) at c.in_err-take_made.ensures.refused))

pub returns-in_err-guid-clause-cause : goal.returns-in_err-guid-clause-cause
returns-in_err-guid-clause-cause g c =
    memory_cause (g.K.Lookup.health c.args.keeper.now) (g.K.Lookup.health c.read_addition.new.keeper) c.from_residual-in_err-guid.result
    c.in_ok-made.ensures.cause.goes c.from_residual-in_err-guid.ensures.1

pub returns-in_err-take_made-clause-cause : goal.returns-in_err-take_made-clause-cause
returns-in_err-take_made-clause-cause g c =
    let p = err_from_is_err_and c.from_residual-in_err-take_made.result c.from_residual-in_err-take_made.ensures.1 in
    rw (p.1, p.2) (later_cause _ _ _ c.in_err-take_made.field-0.0 c.in_ok-made.ensures.cause.goes c.in_err-take_made.ensures.cause)

pub returns-in_err-note_guid-clause-cause : goal.returns-in_err-note_guid-clause-cause
returns-in_err-note_guid-clause-cause g c =
    memory_cause (g.K.Lookup.health c.args.keeper.now) (g.K.Lookup.health c.take_made.new.keeper) c.from_residual-in_err-note_guid.result
    (goes_further c.in_ok-made.ensures.cause.goes c.in_ok-take_made.ensures.cause.goes) c.from_residual-in_err-note_guid.ensures.1

pub returns-clause-ok : goal.returns-clause-ok
returns-clause-ok g c =
    let id : SFits w64 c.in_ok-made.made.note.id = search rules in
    let at : SFits w64 c.args.arrival.at = search rules in
    let k = g.K.Lookup.keeping c.args.keeper.now in
    adds k (g.K.Lookup.keeping c.take_made.new.keeper) c.args.arrival c.args.note_record c.in_ok-made.made c.args.work.now (record { change = c.take_made.new.change; guids = c.note_guid.new.guids })
    (rw (c.new_note-new.ensures, to_z-of_z w64 c.args.arrival.at at) at c.in_ok-made.ensures.made, rw (c.new_note-new.ensures, to_z-of_z w64 c.args.arrival.at at) at c.in_ok-made.ensures.refused) c.requires.none
    (rw (c.read_addition.ensures.same, c.new_note-new.ensures, to_z-of_z w64 c.args.arrival.at at) at c.in_ok-take_made.ensures.ok) (rw (c.in_ok-guid.ensures, to_z-of_z w64 c.in_ok-made.made.note.id id) at c.in_ok-note_guid.ensures)

pub returns-clause-cause : goal.returns-clause-cause
returns-clause-cause g c =
    ok_cause (g.K.Lookup.health c.args.keeper.now) (g.K.Lookup.health c.take_made.new.keeper) outcomes.Added (goes_further c.in_ok-made.ensures.cause.goes c.in_ok-take_made.ensures.cause.goes)
