use Rattle.std.proofs.Common.{◌≡◌, w64, SFits}
use Rattle.std.proofs.lemmas.Int.{to_z-of_z}
use Rattle.std.proofs.lemmas.Result.{err_from_is_err_and}
use Rattle.ak_edit.specs.DeskFaults.{of_keep_fault}
use Rattle.ak_filtered.proofs.EmptiedSubtrees.{subtree_ends, subtree_outside}
use Rattle.ak_study.proofs.AnswerFaults.{from_keeper}
use Rattle.ak_filtered.proofs.emptyings.empty_subtree.Goals as goal

pub returns-clause-ends : goal.returns-clause-ends
returns-clause-ends g c =
    let at : SFits w64 c.args.at = c.ranges.at in
    let id : SFits w64 c.args.deck = c.ranges.deck in
    subtree_ends (g.K.Lookup.keeping c.args.keeper.now) (g.K.Lookup.keeping c.empty_each.new.keeper) c.args.at c.args.deck c.in_ok-decks.decks c.args.steps.now c.empty_each.new.steps c.empty_each.result
    (rw (to_z-of_z w64 c.args.deck id) at c.in_ok-decks.ensures.reads.told) (rw (c.in_ok-decks.ensures.reads.same, to_z-of_z w64 c.args.at at) at c.empty_each.ensures.ends)

pub returns-in_err-decks-clause-ends : goal.returns-in_err-decks-clause-ends
returns-in_err-decks-clause-ends g c =
    let p = err_from_is_err_and c.from_residual.result c.from_residual.ensures.1 in
    rw (c.in_err-decks.ensures.reads.same, p.1, p.2)
    (subtree_outside (Unit {0}) (g.K.Lookup.keeping c.args.keeper.now) c.args.at c.args.deck c.args.steps.now (of_keep_fault c.in_err-decks.field-0.0) (from_keeper c.in_err-decks.field-0.0))
