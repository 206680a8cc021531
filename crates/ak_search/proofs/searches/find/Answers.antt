use Rattle.std.proofs.Common.{sym, ap, subst, ◌∙◌}
use Rattle.ak_faults.proofs.Healths.{goes_further}
use Rattle.ak_keep.proofs.Causing.{cause-ok}
use Rattle.ak_keep.specs.Collections.{last_id}
use Rattle.ak_search.specs.Grammar.{pieces_in}
use Rattle.ak_search.specs.Passes.{TakesFrom}
use Rattle.ak_search.proofs.Passing.{none_sorted, taken_sorted, takes_first}
use Rattle.ak_search.proofs.Telling.{all_told, none_told, page_told}
use Rattle.ak_search.proofs.searches.find.Goals as goal

pub returns-clause-reads : goal.returns-clause-reads
returns-clause-reads g c = record {
  kept = c.pages.invariant.kept;
  same = c.pages.invariant.same;
  cause = cause-ok c.pages.found c.pages.invariant.goes;
  told = all_told (g.R.Lookup.keeping c.args.from.now).told (pieces_in c.args.expr.now.tokens.items) c.args.day c.pages.search c.pages.found c.pages.walk (sym c.is_done.ensures ∙ c.pages-test.false) c.pages.invariant.found;
}

pub pages-init : goal.pages-init
pages-init g c =
    let made = c.in_ok-search.ensures.reads in
    record {
      kept = made.kept;
      same = made.same;
      goes = made.cause.goes;
      found = none_told (g.R.Lookup.keeping c.args.from.now).told (pieces_in c.args.expr.now.tokens.items) c.args.day c.in_ok-search.search c.new-found.result c.over-walk.result c.new-found.ensures c.over-walk.ensures made.told;
      table = ap (λ walk. walk.past.table) c.over-walk.ensures;
      takes = λ _. takes_first c.new-found.result c.over-walk.result.past.id c.new-found.ensures (ap (λ walk. walk.past.id) c.over-walk.ensures);
      ascend = none_sorted c.new-found.result c.new-found.ensures;
    }

pub pages-preserved : goal.pages-preserved
pages-preserved g c =
    let ended : TakesFrom c.take_rows.new.found (last_id c.pages.walk.past.id c.as_slice.result.now) =
    c.in_ok-take_rows.ensures.ascend c.pages.walk.past.id (rw (← c.as_slice.ensures, c.pages.invariant.table) at c.in_ok-page.ensures.ascends) (c.pages.invariant.takes (sym c.is_done.ensures ∙ c.pages-test.true)) in
    record {
      kept = c.in_ok-take_rows.ensures.reads.kept ∙ c.next.ensures.reads.kept ∙ c.pages.invariant.kept;
      same = c.in_ok-take_rows.ensures.reads.same ∙ c.next.ensures.reads.same ∙ c.pages.invariant.same;
      goes = goes_further c.pages.invariant.goes (goes_further c.next.ensures.reads.cause.goes c.in_ok-take_rows.ensures.reads.cause.goes);
      found = page_told (g.R.Lookup.keeping c.args.from.now).told (pieces_in c.args.expr.now.tokens.items) c.args.day c.pages.search c.take_rows.new.search c.pages.found c.take_rows.new.found c.pages.walk c.next.new.self c.in_ok-page.page
          c.pages.invariant.found (rw c.pages.invariant.same at c.in_ok-page.ensures.reads.told) (rw (c.as_slice.ensures, c.next.ensures.reads.same, c.pages.invariant.same) at c.in_ok-take_rows.ensures.reads.told);
      table = c.next.ensures.table ∙ c.pages.invariant.table;
      takes = λ on. subst (TakesFrom c.take_rows.new.found) (sym (c.in_ok-page.ensures.onward on)) (rw c.as_slice.ensures at ended);
      ascend = taken_sorted _ c.take_rows.new.found ended;
    }
