use Rattle.std.proofs.Common.{◌⊎◌, refl, w64, SFits, rules}
use Rattle.std.proofs.lemmas.Int.{to_z-of_z}
use Rattle.ak_edit.specs.Refusals.{IsFromOutside}
use Rattle.ak_faults.proofs.Healths.{goes_further}
use Rattle.ak_imports.proofs.Taking.{edit_refused, exits, updated_refused, updates}
use Rattle.ak_imports.specs.UnderWay.{RefusesToUpdate}
use Rattle.ak_imports.specs.declared.imports.Outcome.TheVariants as outcomes
use Rattle.ak_notes.proofs.AddedNotes.{ok_cause}
use Rattle.ak_imports.proofs.works.update_note.Goals as goal

pub returns-in_err-made-clause-refused : goal.returns-in_err-made-clause-refused
returns-in_err-made-clause-refused g c =
    let at : SFits w64 c.args.arrival.at = search rules in
    let k = g.K.Lookup.keeping c.args.keeper.now in
    exits c.from_residual.result c.in_err-made.field-0.0 (λ fault. IsFromOutside fault ⊎ RefusesToUpdate c.args.arrival c.args.edit.now c.args.work.now k fault)
    c.from_residual.ensures.1
    (edit_refused k c.args.arrival c.args.edit.now c.args.work.now c.in_err-made.field-0.0 (rw (to_z-of_z w64 c.args.arrival.at at) at c.in_err-made.ensures.refused))

pub returns-in_err-take_made-clause-refused : goal.returns-in_err-take_made-clause-refused
returns-in_err-take_made-clause-refused g c =
    let at : SFits w64 c.args.arrival.at = search rules in
    let k = g.K.Lookup.keeping c.args.keeper.now in
    exits c.from_residual-in_err-take_made.result c.in_err-take_made.field-0.0 (λ fault. IsFromOutside fault ⊎ RefusesToUpdate c.args.arrival c.args.edit.now c.args.work.now k fault)
    c.from_residual-in_err-take_made.ensures.1
    (updated_refused k c.args.arrival c.args.edit.now c.args.work.now c.in_ok-made.made c.in_err-take_made.field-0.0
    (rw (to_z-of_z w64 c.args.arrival.at at) at c.in_ok-made.ensures.made, rw (to_z-of_z w64 c.args.arrival.at at) at c.in_ok-made.ensures.refused)
    (rw (c.read_edit.ensures.same, to_z-of_z w64 c.args.arrival.at at) at c.in_err-take_made.ensures.refused))

pub returns-clause-ok : goal.returns-clause-ok
returns-clause-ok g c =
    let at : SFits w64 c.args.arrival.at = search rules in
    let k = g.K.Lookup.keeping c.args.keeper.now in
    updates k (g.K.Lookup.keeping c.take_made.new.keeper) c.args.arrival c.args.edit.now c.in_ok-made.made c.args.work.now (record { change = c.take_made.new.change; guids = c.args.work.now.guids })
    (c.held-formed.ensures.formed c.marked-checks.ensures.checks).current (rw (to_z-of_z w64 c.args.arrival.at at) at c.in_ok-made.ensures.made, rw (to_z-of_z w64 c.args.arrival.at at) at c.in_ok-made.ensures.refused) (λ guid. refl)
    (rw (c.read_edit.ensures.same, to_z-of_z w64 c.args.arrival.at at) at c.in_ok-take_made.ensures.ok)

pub returns-clause-cause : goal.returns-clause-cause
returns-clause-cause g c =
    ok_cause (g.K.Lookup.health c.args.keeper.now) (g.K.Lookup.health c.take_made.new.keeper) outcomes.Updated (goes_further c.in_ok-made.ensures.cause.goes c.in_ok-take_made.ensures.cause.goes)
