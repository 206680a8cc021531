use Rattle.std.proofs.Common.{◌∙◌, refl, sym, subst}
use Rattle.ak_faults.proofs.Healths.{goes_nowhere, goes_further}
use Rattle.ak_keep.specs.Keepers.{WhereTold}
use Rattle.ak_keep.specs.declared.walks.Walk.{Walk}
use Rattle.ak_options.proofs.Deleting.{LeadsTo, all_put, page_put, start_put}
use Rattle.ak_options.proofs.option_deletions.put_decks.Goals as goal

pub returns-clause-ok : goal.returns-clause-ok
returns-clause-ok g c =
    all_put (g.K.Lookup.keeping c.args.keeper.now) c.args.deleted.now.options c.pages.walk c.args.change.now c.pages.change (sym c.is_done.ensures ∙ c.pages-test.false) c.pages.invariant.leads

pub pages-init : goal.pages-init
pages-init g c = record {
  same = refl;
  leads = subst (λ (w : Walk). WhereTold (g.K.Lookup.keeping c.args.keeper.now) (λ h. LeadsTo c.args.deleted.now.options w c.args.change.now c.args.change.now h.rows)) (sym c.over-walk.ensures)
      (start_put (g.K.Lookup.keeping c.args.keeper.now) c.args.deleted.now.options c.args.change.now);
  goes = goes_nowhere (g.K.Lookup.health c.args.keeper.now);
}

pub pages-preserved : goal.pages-preserved
pages-preserved g c = record {
  same = c.next.ensures.reads.same ∙ c.pages.invariant.same;
  leads = page_put (g.K.Lookup.keeping c.args.keeper.now) c.args.deleted.now.options c.pages.walk c.next.new.self c.in_ok-page.page c.args.change.now c.pages.change c.put_page.new.change
      c.pages.invariant.leads (rw c.pages.invariant.same at c.in_ok-page.ensures.reads.told) (rw c.into_vec.ensures at c.in_ok-put_page.ensures);
  goes = goes_further c.pages.invariant.goes c.next.ensures.reads.cause.goes;
}
