use Rattle.std.proofs.Common.{w64, SFits, inr}
use Rattle.std.proofs.lemmas.Int.{to_z-of_z}
use Rattle.std.proofs.lemmas.Result.{err_from_is_err_and}
use Rattle.ak_edit.specs.declared.desk_faults.DeskFault.TheVariants as faults
use Rattle.ak_faults.proofs.Healths.{cause_after}
use Rattle.ak_notes.proofs.AddedNotes.{add_accepted, add_done, add_refused, add_tested, given_cause, later_cause, outside_told}
use Rattle.ak_notes.specs.Additions.{RefusesAddition}
use Rattle.ak_notes.specs.declared.additions.Added.{Added}
use Rattle.ak_notes.proofs.additions.add_note.Goals as goal

pub returns-in_err-made-clause-refused : goal.returns-in_err-made-clause-refused
returns-in_err-made-clause-refused g c =
    let at : SFits w64 c.args.at = c.ranges.at in
    let p = err_from_is_err_and c.from_residual.result c.from_residual.ensures.1 in
    rw (p.1, p.2)
    (add_tested (g.K.Lookup.keeping c.args.keeper.now) c.args.at c.args.new.now c.in_err-made.field-0.0 (rw (to_z-of_z w64 c.args.at at) at c.in_err-made.ensures.refused))

pub returns-clause-ok : goal.returns-clause-ok
returns-clause-ok g c =
    let k = g.K.Lookup.keeping c.args.keeper.now in
    let at : SFits w64 c.args.at = c.ranges.at in
    add_done k (g.K.Lookup.keeping c.finish.new.keeper) c.args.at c.args.new.now c.in_ok-made.made c.in_ok-added.added c.put_made.new.change c.args.steps.now c.finish.new.steps
    (rw (to_z-of_z w64 c.args.at at) at c.in_ok-made.ensures.made) (rw c.new-change.ensures at c.in_ok-put_made.ensures) c.in_ok-added.ensures.note c.in_ok-added.ensures.cards
    (rw (c.read_addition.ensures.same, to_z-of_z w64 c.args.at at) at c.in_ok-finish.ensures.ok)

pub returns-clause-refused : goal.returns-clause-refused
returns-clause-refused g c =
    let k = g.K.Lookup.keeping c.args.keeper.now in
    let at : SFits w64 c.args.at = c.ranges.at in
    add_accepted k c.args.at c.args.new.now c.in_ok-made.made c.in_ok-added.added c.put_made.new.change tt (rw c.new-change.ensures at c.in_ok-put_made.ensures)
    (rw (to_z-of_z w64 c.args.at at) at c.in_ok-made.ensures.made) (rw (to_z-of_z w64 c.args.at at) at c.in_ok-made.ensures.refused)
    (rw (c.read_addition.ensures.same, to_z-of_z w64 c.args.at at) at c.in_ok-finish.ensures.refused)

pub returns-in_err-finish-clause-refused : goal.returns-in_err-finish-clause-refused
returns-in_err-finish-clause-refused g c =
    let k = g.K.Lookup.keeping c.args.keeper.now in
    let at : SFits w64 c.args.at = c.ranges.at in
    let p = err_from_is_err_and c.from_residual-in_err-finish.result c.from_residual-in_err-finish.ensures.1 in
    rw (p.1, p.2)
    (add_refused k c.args.at c.args.new.now c.in_ok-made.made c.put_made.new.change c.in_err-finish.field-0.0 (rw c.new-change.ensures at c.in_ok-put_made.ensures)
    (rw (to_z-of_z w64 c.args.at at) at c.in_ok-made.ensures.made) (rw (to_z-of_z w64 c.args.at at) at c.in_ok-made.ensures.refused)
    (rw (c.read_addition.ensures.same, to_z-of_z w64 c.args.at at) at c.in_err-finish.ensures.refused))

pub returns-in_err-finish-clause-cause : goal.returns-in_err-finish-clause-cause
returns-in_err-finish-clause-cause g c =
    let p = err_from_is_err_and c.from_residual-in_err-finish.result c.from_residual-in_err-finish.ensures.1 in
    rw (p.1, p.2) (later_cause _ _ _ c.in_err-finish.field-0.0 c.in_ok-made.ensures.cause.goes c.in_err-finish.ensures.cause)

pub returns-in_err-put_made-clause-refused : goal.returns-in_err-put_made-clause-refused
returns-in_err-put_made-clause-refused g c =
    let p = err_from_is_err_and c.from_residual-in_err-put_made.result c.from_residual-in_err-put_made.ensures.1 in
    rw p.1 (outside_told Added (g.K.Lookup.keeping c.args.keeper.now) (RefusesAddition c.args.at c.args.new.now) p.0 (inr p.2))

pub returns-in_err-put_made-clause-cause : goal.returns-in_err-put_made-clause-cause
returns-in_err-put_made-clause-cause g c =
    let p = err_from_is_err_and c.from_residual-in_err-put_made.result c.from_residual-in_err-put_made.ensures.1 in
    rw (p.1, p.2) (cause_after c.in_ok-made.ensures.cause.goes (given_cause _ faults.Memory tt))
