use Rattle.std.proofs.Common.{pos, false, ◌∙◌, refl, sym, subst}
use Rattle.ak_base.specs.declared.names.Table.TheVariants as tables
use Rattle.ak_faults.proofs.Healths.{goes_nowhere, goes_further}
use Rattle.ak_keep.proofs.Causing.{cause-ok}
use Rattle.ak_keep.specs.Keepers.{WhereTold}
use Rattle.ak_keep.specs.declared.walks.Walk.{Walk}
use Rattle.ak_keep.proofs.Collecting.{Finds, first_page_told, page_told, pages_told}
use Rattle.ak_note_files.specs.Rules.{guid_of_other}
use Rattle.ak_note_files.proofs.guids.guids_of_others.Goals as goal

start : Walk
start = record { past = record { table = tables.Note; id = pos 0 }; done = false }

pub returns : goal.returns
unfolding start
returns g c = record {
  reads = record {
    kept = c.pages.invariant.kept;
    same = c.pages.invariant.same;
    cause = cause-ok c.pages.guids c.pages.invariant.goes;
    told = pages_told (g.R.Lookup.keeping c.args.from.now).told (guid_of_other c.args.own.now) c.pages.guids start c.pages.walk
        (sym c.is_done.ensures ∙ c.pages-test.false) c.pages.invariant.found;
  };
}

pub pages-init : goal.pages-init
unfolding start
pages-init g c = record {
  kept = refl;
  same = refl;
  goes = goes_nowhere (g.R.Lookup.health c.args.from.now);
  found = subst (λ (w : Walk). WhereTold (g.R.Lookup.keeping c.args.from.now) (Finds (guid_of_other c.args.own.now) c.new-guids.result start w)) (sym c.over-walk.ensures)
      (first_page_told (g.R.Lookup.keeping c.args.from.now).told (guid_of_other c.args.own.now) c.new-guids.result start c.new-guids.ensures);
}

pub pages-preserved : goal.pages-preserved
unfolding start
pages-preserved g c = record {
  kept = c.next.ensures.reads.kept ∙ c.pages.invariant.kept;
  same = c.next.ensures.reads.same ∙ c.pages.invariant.same;
  goes = goes_further c.pages.invariant.goes c.next.ensures.reads.cause.goes;
  found = page_told (g.R.Lookup.keeping c.args.from.now).told (guid_of_other c.args.own.now) c.pages.guids c.take_rows.new.guids start c.pages.walk c.next.new.self c.in_ok-page.page
      c.pages.invariant.found (rw c.pages.invariant.same at c.in_ok-page.ensures.reads.told) (rw c.as_slice.ensures at c.in_ok-take_rows.ensures);
}
