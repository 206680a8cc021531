use Rattle.std.proofs.Common.{◌∙◌, sym}
use Rattle.ak_faults.proofs.Healths.{goes_further}
use Rattle.ak_types.proofs.NoteWalks.{walk_end, walk_page}
use Rattle.ak_types.proofs.retyped_notes.retype_held.Goals as goal

pub pages-preserved : goal.pages-preserved
pages-preserved g c = record {
  same = c.in_ok-retype_rows.ensures.same ∙ c.in_ok-page.ensures.reads.same ∙ c.pages.invariant.same;
  leads = walk_page (g.K.Lookup.keeping c.args.keeper.now) c.args.retyping.now.given.now c.args.retyping.now.old.now c.pages.walk c.next.new.self c.in_ok-page.page c.pages.made c.retype_rows.new.made c.args.made.now
      c.pages.invariant.leads (rw c.pages.invariant.same at c.in_ok-page.ensures.reads.told)
      (rw (c.into_vec.ensures, c.in_ok-page.ensures.reads.same, c.pages.invariant.same) at c.in_ok-retype_rows.ensures.ok);
  goes = goes_further (goes_further c.pages.invariant.goes c.in_ok-page.ensures.reads.cause.goes) c.in_ok-retype_rows.ensures.cause.goes;
}

pub returns-clause-ok : goal.returns-clause-ok
returns-clause-ok g c =
    walk_end (g.K.Lookup.keeping c.args.keeper.now) c.args.retyping.now.given.now c.args.retyping.now.old.now c.pages.walk c.pages.made c.args.made.now (sym c.is_done.ensures ∙ c.pages-test.false) c.pages.invariant.leads
