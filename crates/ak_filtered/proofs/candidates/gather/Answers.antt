use Rattle.std.proofs.Common.{sym, refl, ◌∙◌}
use Rattle.ak_faults.proofs.Healths.{goes_further, goes_nowhere}
use Rattle.ak_filtered.proofs.GatheredKeys.{no_page_put, page_put, pages_put}
use Rattle.ak_keep.proofs.Causing.{cause-ok}
use Rattle.ak_filtered.proofs.candidates.gather.Goals as goal

pub returns : goal.returns
returns g c = record {
  reads = record {
    kept = c.pages.invariant.kept;
    same = c.pages.invariant.same;
    cause = cause-ok c.pages.keys c.pages.invariant.goes;
    told = pages_put (g.R.Lookup.keeping c.args.from.now).told c.args.sieve.now c.args.search.now c.pages.search c.pages.keys.keys c.pages.walk (sym c.is_done.ensures ∙ c.pages-test.false) c.pages.invariant.found;
  };
}

pub pages-init : goal.pages-init
pages-init g c = record {
  kept = refl;
  same = refl;
  goes = goes_nowhere (g.R.Lookup.health c.args.from.now);
  found = no_page_put (g.R.Lookup.keeping c.args.from.now).told c.args.sieve.now c.args.search.now c.new-keys.result.keys c.over-walk.result c.new-keys.ensures.empty c.over-walk.ensures;
}

pub pages-preserved : goal.pages-preserved
pages-preserved g c = record {
  kept = c.in_ok-add_rows.ensures.reads.kept ∙ c.next.ensures.reads.kept ∙ c.pages.invariant.kept;
  same = c.in_ok-add_rows.ensures.reads.same ∙ c.next.ensures.reads.same ∙ c.pages.invariant.same;
  goes = goes_further c.pages.invariant.goes (goes_further c.next.ensures.reads.cause.goes c.in_ok-add_rows.ensures.reads.cause.goes);
  found = page_put (g.R.Lookup.keeping c.args.from.now).told c.args.sieve.now c.args.search.now c.pages.search c.add_rows.new.search c.pages.keys.keys c.add_rows.new.keys.keys c.pages.walk c.next.new.self c.in_ok-page.page
      c.pages.invariant.found (rw c.pages.invariant.same at c.in_ok-page.ensures.reads.told) (rw (c.as_slice.ensures, c.next.ensures.reads.same, c.pages.invariant.same) at c.in_ok-add_rows.ensures.reads.told);
}
