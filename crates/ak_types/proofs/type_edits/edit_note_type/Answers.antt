use Rattle.std.proofs.Common.{w64, SFits}
use Rattle.std.proofs.lemmas.Int.{to_z-of_z}
use Rattle.std.proofs.lemmas.Result.{err_from_is_err_and}
use Rattle.ak_edit_calls.proofs.Answering.{on_ok-map}
use Rattle.ak_edit.specs.Ends.{FinishedBy}
use Rattle.ak_edit.specs.Overlays.{Overlay}
use Rattle.ak_edit.specs.Refusals.{IsEndFault}
use Rattle.ak_types.proofs.Listing.{all_in, end_in}
use Rattle.ak_types.proofs.TypeEditing.{edit_answered, edit_done, edit_tested}
use Rattle.ak_types.specs.TypeEdits.{DoesEditType}
use Rattle.ak_types.proofs.type_edits.edit_note_type.Goals as goal

pub returns-in_err-change-clause-refused : goal.returns-in_err-change-clause-refused
returns-in_err-change-clause-refused g c =
    let p = err_from_is_err_and c.from_residual.result c.from_residual.ensures.1 in
    let at : SFits w64 c.args.at = c.ranges.at in
    rw (p.1, p.2) (edit_tested Overlay (g.K.Lookup.keeping c.args.keeper.now) c.args.at c.args.given.now c.in_err-change.field-0.0 (rw (to_z-of_z w64 c.args.at at) at c.in_err-change.ensures.refused))

pub returns-clause-ok : goal.returns-clause-ok
returns-clause-ok g c =
    let k = g.K.Lookup.keeping c.args.keeper.now in
    let given = c.args.given.now in
    let at : SFits w64 c.args.at = c.ranges.at in
    let o = c.in_ok-change.change in
    let now = g.K.Lookup.keeping c.finish.new.keeper in
    on_ok-map c.finish.result (FinishedBy c.args.at o k now c.args.steps.now c.finish.new.steps) (DoesEditType c.args.at given k now c.args.steps.now c.finish.new.steps)
    (edit_done k now c.args.at given o c.args.steps.now c.finish.new.steps (rw (to_z-of_z w64 c.args.at at) at c.in_ok-change.ensures.made) (rw c.read_edit.ensures.same at c.finish.ensures.known))
    (rw (c.read_edit.ensures.same, to_z-of_z w64 c.args.at at) at c.finish.ensures.ok)

pub returns-clause-refused : goal.returns-clause-refused
returns-clause-refused g c =
    let k = g.K.Lookup.keeping c.args.keeper.now in
    let given = c.args.given.now in
    let at : SFits w64 c.args.at = c.ranges.at in
    edit_answered k c.args.at given c.in_ok-change.change c.finish.result (rw (to_z-of_z w64 c.args.at at) at c.in_ok-change.ensures.made) (rw (to_z-of_z w64 c.args.at at) at c.in_ok-change.ensures.refused)
    (rw c.read_edit.ensures.same at c.finish.ensures.known) (rw (c.read_edit.ensures.same, to_z-of_z w64 c.args.at at) at c.finish.ensures.refused)

pub returns-clause-listed : goal.returns-clause-listed
returns-clause-listed g c = all_in c.args.given.now.note_type.id c.finish.result IsEndFault (end_in c.args.given.now.note_type.id) c.finish.ensures.listed
