use Rattle.std.proofs.Common.{ℤ, rules, w64, SFits, ◌∙◌}
use Rattle.std.proofs.lemmas.Int.{to_z-of_z}
use Rattle.std.proofs.lemmas.Result.{err_from_is_err_and}
use Rattle.ak_deck_paths.proofs.AddedDecks.{add_accepted, add_done, add_refused}
use Rattle.ak_deck_paths.proofs.deck_additions.add_deck.Goals as goal

pub returns-clause-ok : goal.returns-clause-ok
returns-clause-ok g c =
    let k = g.K.Lookup.keeping c.args.keeper.now in
    let at : SFits w64 c.args.at = c.ranges.at in
    let id : ℤ = c.id_of_last-id.result in
    let fits : SFits w64 id = search rules in
    add_done k (g.K.Lookup.keeping c.finish.new.keeper) c.args.at c.args.path.now c.in_ok-made.made _ c.in_ok-change.change c.args.steps.now c.finish.new.steps
    (rw (to_z-of_z w64 c.args.at at) at c.in_ok-made.ensures.made) (rw c.new-moved.ensures at c.in_ok-change.ensures) (to_z-of_z w64 id fits ∙ rw c.as_slice.ensures at c.id_of_last-id.ensures)
    (rw (c.read_addition.ensures.same, to_z-of_z w64 c.args.at at) at c.in_ok-finish.ensures.ok)

pub returns-clause-refused : goal.returns-clause-refused
returns-clause-refused g c =
    let k = g.K.Lookup.keeping c.args.keeper.now in
    let at : SFits w64 c.args.at = c.ranges.at in
    add_accepted k c.args.at c.args.path.now c.in_ok-made.made _ c.in_ok-change.change tt (rw c.new-moved.ensures at c.in_ok-change.ensures)
    (rw (to_z-of_z w64 c.args.at at) at c.in_ok-made.ensures.made) (rw (to_z-of_z w64 c.args.at at) at c.in_ok-made.ensures.refused) (rw c.read_addition.ensures.same at c.finish.ensures.known)
    (rw (c.read_addition.ensures.same, to_z-of_z w64 c.args.at at) at c.in_ok-finish.ensures.refused)

pub returns-in_err-finish-clause-refused : goal.returns-in_err-finish-clause-refused
returns-in_err-finish-clause-refused g c =
    let k = g.K.Lookup.keeping c.args.keeper.now in
    let at : SFits w64 c.args.at = c.ranges.at in
    let p = err_from_is_err_and c.from_residual-in_err-finish.result c.from_residual-in_err-finish.ensures.1 in
    rw (p.1, p.2)
    (add_refused k c.args.at c.args.path.now c.in_ok-made.made c.in_ok-change.change c.in_err-finish.field-0.0 (rw c.new-moved.ensures at c.in_ok-change.ensures)
    (rw (to_z-of_z w64 c.args.at at) at c.in_ok-made.ensures.made) (rw (to_z-of_z w64 c.args.at at) at c.in_ok-made.ensures.refused) (rw c.read_addition.ensures.same at c.finish.ensures.known)
    (rw (c.read_addition.ensures.same, to_z-of_z w64 c.args.at at) at c.in_err-finish.ensures.refused))
