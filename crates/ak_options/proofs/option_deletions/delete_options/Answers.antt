use Rattle.std.proofs.Common.{ℤ, rules, w64, SFits}
use Rattle.std.proofs.lemmas.Int.{to_z-of_z}
use Rattle.std.proofs.lemmas.Result.{err_from_is_err_and}
use Rattle.ak_options.proofs.Deleting.{asked_of, deletion_asked, deletion_ended, deletion_kept}
use Rattle.ak_options.proofs.option_deletions.delete_options.Goals as goal

pub returns-in_err-test_asked-clause-edits : goal.returns-in_err-test_asked-clause-edits
returns-in_err-test_asked-clause-edits g c =
    let p = err_from_is_err_and c.from_residual-in_err-test_asked.result c.from_residual-in_err-test_asked.ensures.1 in
    let k = g.K.Lookup.keeping c.args.keeper.now in
    let options : ℤ = c.args.deleted.now.options in
    let fits : SFits w64 options = search rules in
    rw (p.1, p.2) (deletion_kept k (g.K.Lookup.keeping c.held_row.new.keeper) c.args.at options c.args.deleted.now.allow c.in_err-test_asked.field-0.0 c.args.steps.now c.held_row.ensures.same
    (deletion_asked k c.args.at options c.args.deleted.now.allow c.in_ok-group.group c.in_err-test_asked.field-0.0 (rw (to_z-of_z w64 options fits) at c.in_ok-group.ensures.refused) c.in_err-test_asked.ensures.refused))

pub returns-clause-edits : goal.returns-clause-edits
returns-clause-edits g c =
    let k = g.K.Lookup.keeping c.args.keeper.now in
    let options : ℤ = c.args.deleted.now.options in
    let fits : SFits w64 options = search rules in
    let at : SFits w64 c.args.at = c.ranges.at in
    let walked = c.in_ok-put_decks.ensures.same in
    let read = c.held_row.ensures.same in
    deletion_ended k (g.K.Lookup.keeping c.finish.new.keeper) c.args.at options c.args.deleted.now.allow c.in_ok-group.group _ c.remove.new.self
    c.args.steps.now c.finish.new.steps c.finish.result
    (rw (to_z-of_z w64 options fits) at c.in_ok-group.ensures.refused) c.in_ok-test_asked.ensures.refused
    (asked_of k options c.put_decks.new.change c.remove.new.self (rw (c.new-change.ensures, read) at c.in_ok-put_decks.ensures.ok)
    (rw (c.change_schema.ensures, to_z-of_z w64 options fits) at c.in_ok-remove.ensures.ok))
    (rw (walked, read) at c.finish.ensures.known) (rw (walked, read, to_z-of_z w64 c.args.at at) at c.finish.ensures.ok)
    (rw (walked, read) at c.finish.ensures.err) c.finish.ensures.kept (rw (walked, read) at c.finish.ensures.stays)
    (rw (walked, read, to_z-of_z w64 c.args.at at) at c.finish.ensures.refused)
