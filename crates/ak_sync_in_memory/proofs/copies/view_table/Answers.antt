use Rattle.std.specs.List.{All}
use Rattle.std.proofs.Common.{ap, sym, subst, ◌∙◌, ◌++◌, List, append_assoc}
use Rattle.std.proofs.lemmas.List.Elements.{All-append}
use Rattle.ak_base.specs.Rows.{IsChecked}
use Rattle.ak_base.specs.declared.rows.Row.{Row}
use Rattle.ak_faults.proofs.Healths.{goes_further}
use Rattle.ak_sync_in_memory.proofs.Viewing.{collection_stays, viewed_further}
use Rattle.ak_sync_in_memory.specs.Copies.{rows_to_come}
use Rattle.ak_sync_in_memory.proofs.copies.view_table.Goals as goal

pub returns-in_err-page-clause-views : goal.returns-in_err-page-clause-views
returns-in_err-page-clause-views c =
    viewed_further c.args.server.now c.pages.server c.next.new.server c.pages.invariant.views c.next.ensures.views

pub returns-in_err-append_page-clause-views : goal.returns-in_err-append_page-clause-views
returns-in_err-append_page-clause-views c =
    viewed_further c.args.server.now c.pages.server c.next.new.server c.pages.invariant.views c.next.ensures.views

pub pages-preserved : goal.pages-preserved
pages-preserved c = record {
  views = viewed_further c.args.server.now c.pages.server c.next.new.server c.pages.invariant.views c.next.ensures.views;
  goes = goes_further c.pages.invariant.goes c.next.ensures.cause.goes;
  checked = λ before. subst (All IsChecked) (sym c.in_ok-append_page.ensures.ok)
      (All-append IsChecked c.pages.rows.items c.in_ok-page.page (c.pages.invariant.checked before) c.in_ok-page.ensures.checked);
  all = λ d is.
      ap (λ (rows : List Row). rows ++ rows_to_come c.next.new.self d.rows) c.in_ok-append_page.ensures.ok
      ∙ append_assoc c.pages.rows.items c.in_ok-page.page (rows_to_come c.next.new.self d.rows)
      ∙ sym (ap (λ (rows : List Row). c.pages.rows.items ++ rows)
      (c.in_ok-page.ensures.rows d (collection_stays c.args.server.now c.pages.server c.pages.invariant.views ∙ is)))
      ∙ c.pages.invariant.all d is;
}
