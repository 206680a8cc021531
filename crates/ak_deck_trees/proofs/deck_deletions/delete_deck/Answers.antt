use Rattle.std.proofs.Common.{ℤ, w64, SFits}
use Rattle.std.proofs.lemmas.Int.{to_z-of_z}
use Rattle.ak_deck_trees.proofs.TreeAnswers.{deck_ended, deck_listed}
use Rattle.ak_deck_trees.proofs.deck_deletions.delete_deck.Goals as goal

pub returns-clause-edits : goal.returns-clause-edits
returns-clause-edits g c =
    let deck : ℤ = c.args.deck in
    let fits : SFits w64 deck = c.ranges.deck in
    let at : SFits w64 c.args.at = c.ranges.at in
    deck_ended (g.K.Lookup.keeping c.args.keeper.now) (g.K.Lookup.keeping c.delete_tree.new.keeper) c.args.at deck c.in_ok-row.row
    c.args.steps.now c.delete_tree.new.steps c.delete_tree.result
    (rw (to_z-of_z w64 deck fits) at c.in_ok-row.ensures.held) (rw (to_z-of_z w64 deck fits) at c.in_ok-row.ensures.refused)
    (rw (c.held_row.ensures.same, c.path_of.ensures, to_z-of_z w64 c.args.at at) at c.delete_tree.ensures.edits)

pub returns-clause-listed : goal.returns-clause-listed
returns-clause-listed g c = deck_listed c.delete_tree.result c.delete_tree.ensures.listed
