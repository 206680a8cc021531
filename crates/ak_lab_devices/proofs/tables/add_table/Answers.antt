use Rattle.std.proofs.Common.{◌≡◌, ◌++◌, ◌∙◌, map, refl, sym, subst}
use Rattle.ak_faults.proofs.Healths.{goes_nowhere, goes_further}
use Rattle.ak_keep.specs.Keepers.{WhereTold}
use Rattle.ak_keep.specs.Walks.{ahead}
use Rattle.ak_keep.specs.declared.walks.Walk.{Walk}
use Rattle.ak_lab_devices.proofs.TableTexts.{all_ahead, next_texts}
use Rattle.ak_lab_devices.specs.Shows.{row_text, table_lines}
use Rattle.ak_lab_devices.proofs.tables.add_table.Goals as goal

pub pages-init : goal.pages-init
pages-init g c = record {
  all = all_ahead (g.R.Lookup.keeping c.args.from.now) c.over-walk.result c.args.table c.args.texts.now c.over-walk.ensures;
  kept = refl;
  same = refl;
  goes = goes_nowhere (g.R.Lookup.health c.args.from.now);
}

pub pages-preserved : goal.pages-preserved
pages-preserved g c = record {
  all = subst (λ texts. WhereTold (g.R.Lookup.keeping c.args.from.now) (λ h. texts ++ map row_text (ahead c.next.new.self h.rows) ≡ c.args.texts.now ++ table_lines c.args.table h.rows)) (sym (rw c.as_slice.ensures at c.in_ok-add_rows.ensures))
      (next_texts (g.R.Lookup.keeping c.args.from.now) c.pages.texts c.in_ok-page.page (λ h. ahead c.pages.walk h.rows) (λ h. ahead c.next.new.self h.rows) (λ h. c.args.texts.now ++ table_lines c.args.table h.rows)
      c.pages.invariant.all (rw c.pages.invariant.same at c.in_ok-page.ensures.reads.told));
  kept = c.next.ensures.reads.kept ∙ c.pages.invariant.kept;
  same = c.next.ensures.reads.same ∙ c.pages.invariant.same;
  goes = goes_further c.pages.invariant.goes c.next.ensures.reads.cause.goes;
}
