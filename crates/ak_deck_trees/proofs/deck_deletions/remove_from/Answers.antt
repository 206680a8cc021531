use Rattle.std.proofs.Common.{◌∙◌}
use Rattle.ak_deck_trees.proofs.TreeAnswers.{page_swept}
use Rattle.ak_faults.proofs.Healths.{goes_further}
use Rattle.ak_deck_trees.proofs.deck_deletions.remove_from.Goals as goal

pub pages-preserved : goal.pages-preserved
pages-preserved g c = record {
  same = c.in_ok-remove_among.ensures.same ∙ c.next.ensures.reads.same ∙ c.pages.invariant.same;
  removed = page_swept (g.K.Lookup.keeping c.args.keeper.now) c.args.root.now c.args.table c.pages.walk c.next.new.self c.in_ok-page.page c.args.change.now c.pages.change c.remove_among.new.change
      c.pages.invariant.removed (rw c.pages.invariant.same at c.in_ok-page.ensures.reads.told)
      (rw (c.as_slice.ensures, c.next.ensures.reads.same, c.pages.invariant.same) at c.in_ok-remove_among.ensures.ok);
  goes = goes_further c.pages.invariant.goes (goes_further c.next.ensures.reads.cause.goes c.in_ok-remove_among.ensures.cause.goes);
}
