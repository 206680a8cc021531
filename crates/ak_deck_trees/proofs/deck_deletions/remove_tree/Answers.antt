use Rattle.ak_deck_trees.proofs.TreeAnswers.{tree_swept}
use Rattle.ak_deck_trees.proofs.deck_deletions.remove_tree.Goals as goal

pub returns-clause-ok : goal.returns-clause-ok
returns-clause-ok g c =
    tree_swept (g.K.Lookup.keeping c.args.keeper.now) c.args.root.now c.args.change.now c.remove_from.new.change c.remove_from-2.new.change c.remove_from-3.new.change
    c.in_ok-remove_from.ensures.ok (rw c.remove_from.ensures.same at c.in_ok-remove_from-2.ensures.ok)
    (rw (c.remove_from-2.ensures.same, c.remove_from.ensures.same) at c.in_ok-remove_from-3.ensures.ok)
