use Rattle.std.proofs.Common.{pos, false, ◌∙◌, refl, sym, subst, rules}
use Rattle.std.specs.BTreeMap.{get_by_text}
use Rattle.ak_base.specs.declared.names.Table.TheVariants as tables
use Rattle.ak_faults.proofs.Healths.{goes_nowhere, goes_further}
use Rattle.ak_imports.proofs.GuidsRead.{FindsIds, first_page, page_told, pages_told}
use Rattle.ak_imports.proofs.LeastNotes.{least_told}
use Rattle.ak_keep.proofs.Causing.{cause-ok}
use Rattle.ak_keep.specs.Keepers.{WhereTold}
use Rattle.ak_keep.specs.declared.walks.Walk.{Walk}
use Rattle.ak_imports.proofs.guids.guids_of.Goals as goal

start : Walk
start = record { past = record { table = tables.Note; id = pos 0 }; done = false }

pub returns : goal.returns
unfolding start
returns g c = record {
  reads = record {
    kept = c.pages.invariant.kept;
    same = c.pages.invariant.same;
    cause = cause-ok c.pages.guids c.pages.invariant.goes;
    told = least_told (g.R.Lookup.keeping c.args.from.now).told (λ guid. get_by_text c.pages.guids guid) c.held-named.ensures.known.current
        (pages_told (g.R.Lookup.keeping c.args.from.now).told (λ guid. get_by_text c.pages.guids guid) start c.pages.walk (sym c.is_done.ensures ∙ c.pages-test.false) c.pages.invariant.found);
  };
}

pub pages-init : goal.pages-init
unfolding start
pages-init g c = record {
  kept = refl;
  same = refl;
  goes = goes_nowhere (g.R.Lookup.health c.args.from.now);
  found = subst (λ (w : Walk). WhereTold (g.R.Lookup.keeping c.args.from.now) (FindsIds (λ guid. get_by_text c.new-guids.result guid) start w)) (sym c.over-walk.ensures)
      (first_page (g.R.Lookup.keeping c.args.from.now).told (λ guid. get_by_text c.new-guids.result guid) start (λ guid. search rules));
}

pub pages-preserved : goal.pages-preserved
unfolding start
pages-preserved g c = record {
  kept = c.next.ensures.reads.kept ∙ c.pages.invariant.kept;
  same = c.next.ensures.reads.same ∙ c.pages.invariant.same;
  goes = goes_further c.pages.invariant.goes c.next.ensures.reads.cause.goes;
  found = page_told (g.R.Lookup.keeping c.args.from.now).told (λ guid. get_by_text c.pages.guids guid) (λ guid. get_by_text c.take_rows.new.guids guid) start c.pages.walk c.next.new.self c.in_ok-page.page
      c.pages.invariant.found (rw c.pages.invariant.same at c.in_ok-page.ensures.reads.told) (rw c.as_slice.ensures at c.in_ok-take_rows.ensures);
}
