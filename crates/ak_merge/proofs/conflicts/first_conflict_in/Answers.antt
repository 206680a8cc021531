use Rattle.std.proofs.Common.{◌∙◌}
use Rattle.ak_faults.proofs.Healths.{goes_further}
use Rattle.ak_merge.proofs.Passing.{conflict_found, conflict_passed}
use Rattle.ak_merge.proofs.conflicts.first_conflict_in.Goals as goal

pub returns-in-Some-clause-first : goal.returns-in-Some-clause-first
returns-in-Some-clause-first g c =
    conflict_found (g.A.Lookup.keeping c.args.a.now) (g.B.Lookup.keeping c.args.b.now) c.args.table c.pages.walk c.next.new.self c.in_ok-page.page c.in-Some.name c.pages.invariant.first
    (rw c.pages.invariant.one_same at c.in_ok-page.ensures.reads.told) (rw (c.in-Some.is, c.as_slice.ensures, c.pages.invariant.other_same) at c.in_ok-name.ensures.reads.told)

pub pages-preserved : goal.pages-preserved
pages-preserved g c = record {
  first = conflict_passed (g.A.Lookup.keeping c.args.a.now) (g.B.Lookup.keeping c.args.b.now) c.args.table c.pages.walk c.next.new.self c.in_ok-page.page c.pages.invariant.first
      (rw c.pages.invariant.one_same at c.in_ok-page.ensures.reads.told) (rw (c.in_default.is, c.as_slice.ensures, c.pages.invariant.other_same) at c.in_ok-name.ensures.reads.told);
  one_kept = c.next.ensures.reads.kept ∙ c.pages.invariant.one_kept;
  other_kept = c.in_ok-name.ensures.reads.kept ∙ c.pages.invariant.other_kept;
  one_same = c.next.ensures.reads.same ∙ c.pages.invariant.one_same;
  other_same = c.in_ok-name.ensures.reads.same ∙ c.pages.invariant.other_same;
  one_goes = goes_further c.pages.invariant.one_goes c.next.ensures.reads.cause.goes;
  other_goes = goes_further c.pages.invariant.other_goes c.in_ok-name.ensures.reads.cause.goes;
}
