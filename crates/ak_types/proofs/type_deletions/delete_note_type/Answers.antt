use Rattle.std.proofs.Common.{ℤ, rules, w64, SFits}
use Rattle.std.proofs.lemmas.Int.{to_z-of_z}
use Rattle.std.proofs.lemmas.Result.{err_from_is_err_and}
use Rattle.ak_types.proofs.Deleting.{deletion_ended, deletion_kept, deletion_refused}
use Rattle.ak_types.proofs.type_deletions.delete_note_type.Goals as goal

pub returns-in_err-test_kept-clause-edits : goal.returns-in_err-test_kept-clause-edits
returns-in_err-test_kept-clause-edits g c =
    let p = err_from_is_err_and c.from_residual-in_err-test_kept.result c.from_residual-in_err-test_kept.ensures.1 in
    let k = g.K.Lookup.keeping c.args.keeper.now in
    let id : ℤ = c.args.deleted.now.note_type in
    let fits : SFits w64 id = search rules in
    let read = c.held_row.ensures.same in
    rw (p.1, p.2) (deletion_kept k (g.K.Lookup.keeping c.test_kept.new.keeper) c.args.at id c.args.deleted.now.allow c.in_err-test_kept.field-0.0 c.args.steps.now (rw read at c.test_kept.ensures.same)
    (deletion_refused k c.args.at id c.args.deleted.now.allow c.in_ok-held.held c.in_err-test_kept.field-0.0 (rw (to_z-of_z w64 id fits) at c.in_ok-held.ensures.refused) (rw read at c.in_err-test_kept.ensures.refused)))

pub returns-clause-edits : goal.returns-clause-edits
returns-clause-edits g c =
    let k = g.K.Lookup.keeping c.args.keeper.now in
    let id : ℤ = c.args.deleted.now.note_type in
    let fits : SFits w64 id = search rules in
    let at : SFits w64 c.args.at = c.ranges.at in
    let tested = c.test_kept.ensures.same in
    let read = c.held_row.ensures.same in
    deletion_ended k (g.K.Lookup.keeping c.finish.new.keeper) c.args.at id c.args.deleted.now.allow c.in_ok-held.held _ c.remove.new.self
    c.args.steps.now c.finish.new.steps c.finish.result
    (rw (c.change_schema.ensures, c.new-change.ensures, to_z-of_z w64 id fits) at c.in_ok-remove.ensures.ok)
    (rw (to_z-of_z w64 id fits) at c.in_ok-held.ensures.refused) (rw read at c.in_ok-test_kept.ensures.refused)
    (rw (tested, read) at c.finish.ensures.known) (rw (tested, read, to_z-of_z w64 c.args.at at) at c.finish.ensures.ok)
    (rw (tested, read) at c.finish.ensures.err) c.finish.ensures.kept (rw (tested, read) at c.finish.ensures.stays)
    (rw (tested, read, to_z-of_z w64 c.args.at at) at c.finish.ensures.refused)
