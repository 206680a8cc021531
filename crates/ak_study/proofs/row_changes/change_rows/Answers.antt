use Rattle.std.proofs.Common.{pos, false, ◌∙◌, refl, sym, subst}
use Rattle.ak_base.specs.declared.names.Table.{Table}
use Rattle.ak_faults.proofs.Healths.{goes_nowhere, goes_further}
use Rattle.ak_keep.proofs.Causing.{cause-ok}
use Rattle.ak_keep.specs.Keepers.{WhereTold}
use Rattle.ak_keep.specs.declared.walks.Walk.{Walk}
use Rattle.ak_study.proofs.RowPages.{LeadsOn, first_page_told, page_told, whole_told}
use Rattle.ak_study.proofs.row_changes.change_rows.Goals as goal

start : Table → Walk
start table = record { past = record { table = table; id = pos 0 }; done = false }

pub returns : goal.returns
unfolding start
returns g c = record {
  reads = record {
    kept = c.pages.invariant.kept;
    same = c.pages.invariant.same;
    cause = cause-ok tt c.pages.invariant.goes;
    told = whole_told (g.R.Lookup.keeping c.args.from.now).told (g.C.RowChange.change c.args.by.now) (start c.args.table) c.pages.walk c.args.change.now c.pages.change (sym c.is_done.ensures ∙ c.pages-test.false) c.pages.invariant.leads;
  };
}

pub pages-init : goal.pages-init
unfolding start
pages-init g c = record {
  kept = refl;
  same = refl;
  goes = goes_nowhere (g.R.Lookup.health c.args.from.now);
  leads = subst (λ (w : Walk). WhereTold (g.R.Lookup.keeping c.args.from.now) (LeadsOn (g.C.RowChange.change c.args.by.now) (start c.args.table) w c.args.change.now c.args.change.now)) (sym c.over-walk.ensures)
      (first_page_told (g.R.Lookup.keeping c.args.from.now).told (g.C.RowChange.change c.args.by.now) (start c.args.table) c.args.change.now);
}

pub pages-preserved : goal.pages-preserved
unfolding start
pages-preserved g c = record {
  kept = c.next.ensures.reads.kept ∙ c.pages.invariant.kept;
  same = c.next.ensures.reads.same ∙ c.pages.invariant.same;
  goes = goes_further c.pages.invariant.goes c.next.ensures.reads.cause.goes;
  leads = page_told (g.R.Lookup.keeping c.args.from.now).told (g.C.RowChange.change c.args.by.now) (start c.args.table) c.pages.walk c.next.new.self c.args.change.now c.pages.change c.change_page.new.change c.in_ok-page.page
      c.pages.invariant.leads (rw c.pages.invariant.same at c.in_ok-page.ensures.reads.told) (rw c.as_slice.ensures at c.in_ok-change_page.ensures);
}
