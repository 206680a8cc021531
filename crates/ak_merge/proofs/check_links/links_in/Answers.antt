use Rattle.std.proofs.Common.{◌∙◌, pos, false, sym, subst}
use Rattle.ak_base.specs.declared.names.Table.{Table}
use Rattle.ak_faults.proofs.Healths.{goes_further}
use Rattle.ak_keep.proofs.Causing.{cause-ok}
use Rattle.ak_keep.proofs.Collecting.{Finds, first_page_told, page_told, pages_told}
use Rattle.ak_keep.specs.Keepers.{WhereTold}
use Rattle.ak_keep.specs.declared.walks.Walk.{Walk}
use Rattle.ak_merge.specs.CheckLinks.{link_of}
use Rattle.ak_merge.proofs.check_links.links_in.Goals as goal

start : Table → Walk
start table = record { past = record { table = table; id = pos 0 }; done = false }

pub returns : goal.returns
unfolding start
returns g c = record {
  reads = record {
    kept = c.pages.invariant.kept;
    same = c.pages.invariant.same;
    cause = cause-ok c.pages.links c.pages.invariant.goes;
    told = pages_told (g.R.Lookup.keeping c.args.from.now).told link_of c.pages.links (start c.args.table) c.pages.walk (sym c.is_done.ensures ∙ c.pages-test.false) c.pages.invariant.found;
  };
}

pub pages-init : goal.pages-init
unfolding start
pages-init g c = record {
  kept = c.next.ensures.reads.kept;
  same = c.next.ensures.reads.same;
  goes = c.next.ensures.reads.cause.goes;
  found = page_told (g.R.Lookup.keeping c.args.from.now).told link_of c.new-links.result c.take_links.new.links (start c.args.table) (start c.args.table) c.next.new.self c.in_ok-first.first
      (first_page_told (g.R.Lookup.keeping c.args.from.now).told link_of c.new-links.result (start c.args.table) c.new-links.ensures)
      (rw c.over-walk.ensures at c.in_ok-first.ensures.reads.told) (rw c.as_slice.ensures at c.in_ok-take_links.ensures);
}

pub pages-preserved : goal.pages-preserved
unfolding start
pages-preserved g c = record {
  kept = c.next-in-pages.ensures.reads.kept ∙ c.pages.invariant.kept;
  same = c.next-in-pages.ensures.reads.same ∙ c.pages.invariant.same;
  goes = goes_further c.pages.invariant.goes c.next-in-pages.ensures.reads.cause.goes;
  found = page_told (g.R.Lookup.keeping c.args.from.now).told link_of c.pages.links c.take_links-in-pages.new.links (start c.args.table) c.pages.walk c.next-in-pages.new.self c.in_ok-page.page
      c.pages.invariant.found (rw c.pages.invariant.same at c.in_ok-page.ensures.reads.told) (rw c.as_slice-in-pages.ensures at c.in_ok-take_links-2.ensures);
}
