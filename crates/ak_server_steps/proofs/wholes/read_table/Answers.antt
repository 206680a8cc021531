use Rattle.std.proofs.Common.{◌≡◌, ◌++◌, ◌∙◌, refl, sym, subst}
use Rattle.ak_faults.proofs.Healths.{goes_nowhere, goes_further}
use Rattle.ak_keep.specs.Keepers.{WhereTold}
use Rattle.ak_keep.specs.Walks.{ahead}
use Rattle.ak_keep.specs.declared.walks.Walk.{Walk}
use Rattle.ak_server_steps.specs.Wholes.{rows_in}
use Rattle.ak_sync_rows.proofs.Gathering.{where_all}
use Rattle.ak_sync_rows.proofs.Pages.{next_page}
use Rattle.ak_server_steps.proofs.wholes.read_table.Goals as goal

pub pages-init : goal.pages-init
pages-init g c = record {
  all = subst (λ (w : Walk). WhereTold (g.K.Lookup.keeping c.args.from.now) (λ h. c.args.rows.now.items ++ ahead w h.rows ≡ c.args.rows.now.items ++ rows_in c.args.table h.rows)) (sym c.over-walk.ensures)
      (where_all (g.K.Lookup.keeping c.args.from.now) (λ h. c.args.rows.now.items ++ rows_in c.args.table h.rows ≡ c.args.rows.now.items ++ rows_in c.args.table h.rows) (λ h. refl));
  kept = refl;
  same = refl;
  goes = goes_nowhere (g.K.Lookup.health c.args.from.now);
}

pub pages-preserved : goal.pages-preserved
pages-preserved g c = record {
  all = subst (λ rows. WhereTold (g.K.Lookup.keeping c.args.from.now) (λ h. rows ++ ahead c.next.new.self h.rows ≡ c.args.rows.now.items ++ rows_in c.args.table h.rows)) (sym c.in_ok-append_page.ensures.ok)
      (next_page (g.K.Lookup.keeping c.args.from.now) c.pages.rows.items c.in_ok-page.page (λ h. ahead c.pages.walk h.rows) (λ h. ahead c.next.new.self h.rows) (λ h. c.args.rows.now.items ++ rows_in c.args.table h.rows)
      c.pages.invariant.all (rw c.pages.invariant.same at c.in_ok-page.ensures.reads.told));
  kept = c.next.ensures.reads.kept ∙ c.pages.invariant.kept;
  same = c.next.ensures.reads.same ∙ c.pages.invariant.same;
  goes = goes_further c.pages.invariant.goes c.next.ensures.reads.cause.goes;
}
