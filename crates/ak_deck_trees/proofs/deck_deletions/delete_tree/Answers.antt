use Rattle.std.proofs.Common.{w64, SFits}
use Rattle.std.proofs.lemmas.Int.{to_z-of_z}
use Rattle.ak_deck_trees.proofs.TreeAnswers.{tree_ended, tree_listed}
use Rattle.ak_deck_trees.proofs.deck_deletions.delete_tree.Goals as goal

pub returns-clause-edits : goal.returns-clause-edits
returns-clause-edits g c =
    let k = g.K.Lookup.keeping c.args.keeper.now in
    let at : SFits w64 c.args.at = c.ranges.at in
    let ended = tree_ended k (g.K.Lookup.keeping c.finish.new.keeper) c.args.at c.args.root.now c.remove_tree.new.change c.args.steps.now c.finish.new.steps c.in_ok-keep_default.field-0 c.finish.result
    (rw (c.remove_tree.ensures.same, c.keep_default.ensures.same) at c.finish.ensures.known)
    (rw (c.new-change.ensures, c.keep_default.ensures.same) at c.in_ok-remove_tree.ensures.ok)
    c.in_ok-keep_default.ensures.refused
    (rw (c.remove_tree.ensures.same, c.keep_default.ensures.same, to_z-of_z w64 c.args.at at) at c.finish.ensures.ok)
    (rw (c.remove_tree.ensures.same, c.keep_default.ensures.same, to_z-of_z w64 c.args.at at) at c.finish.ensures.refused) in
    record {
      done = ended.0;
      same = rw (c.remove_tree.ensures.same, c.keep_default.ensures.same) at c.finish.ensures.err;
      kept = c.finish.ensures.kept;
      stays = rw (c.remove_tree.ensures.same, c.keep_default.ensures.same) at c.finish.ensures.stays;
      answers = ended.1;
    }

pub returns-clause-listed : goal.returns-clause-listed
returns-clause-listed g c = tree_listed c.finish.result c.finish.ensures.listed
