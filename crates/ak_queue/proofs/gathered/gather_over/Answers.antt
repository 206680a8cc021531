use Rattle.std.proofs.Common.{◌∙◌, arith, rules, w64, refl, sym, subst}
use Rattle.std.proofs.lemmas.Int.{to_z-of_z}
use mir.Val.{SFits}
use Rattle.ak_faults.proofs.Healths.{goes_nowhere, goes_further}
use Rattle.ak_keep.proofs.Causing.{cause-ok}
use Rattle.ak_queue.specs.Scopes.{scope_seen}
use Rattle.ak_queue.proofs.Gatherings.{all_told, enough_told, first_told, next_told, page_told}
use Rattle.ak_queue.proofs.gathered.gather_over.Goals as goal

pub pages-init : goal.pages-init
pages-init g c = record {
  kept = refl;
  same = refl;
  goes = goes_nowhere (g.R.Lookup.health c.args.from.now);
  low = c.first_limit-limit.ensures.low;
  high = c.first_limit-limit.ensures.high;
  most = refl;
  found = first_told (g.R.Lookup.keeping c.args.from.now).told (scope_seen c.args.scope.now) c.args.over c.args.gathered.now;
}

pub pages-preserved : goal.pages-preserved
pages-preserved g c =
    let told = (g.R.Lookup.keeping c.args.from.now).told in
    let going = sym c.is_done.ensures ∙ c.pages-test.true in
    record {
      kept = c.next.ensures.reads.kept ∙ c.pages.invariant.kept;
      same = c.next.ensures.reads.same ∙ c.pages.invariant.same;
      goes = goes_further c.pages.invariant.goes c.next.ensures.reads.cause.goes;
      low = omega arith;
      high = omega arith;
      most = c.in_ok-add_cards.ensures.most ∙ c.pages.invariant.most;
      found = next_told told (scope_seen c.args.scope.now) c.args.over c.pages.walk c.next.new.self c.args.gathered.now c.pages.gathered c.add_cards.new.self c.in_ok-page.page
          c.pages.invariant.found (page_told told c.pages.walk c.next.new.self c.pages.limit c.in_ok-page.page going c.in_ok-page.ensures.passed (rw c.pages.invariant.same at c.in_ok-page.ensures.reads.told))
          (rw c.as_slice.ensures at c.in_ok-add_cards.ensures);
    }

pub returns-then-has_enough : goal.returns-then-has_enough
returns-then-has_enough g c =
    let fits : SFits w64 c.args.over.waiting.queue = search rules in
    record {
      most = c.pages.invariant.most;
      reads = record {
        kept = c.pages.invariant.kept;
        same = c.pages.invariant.same;
        cause = cause-ok tt c.pages.invariant.goes;
        told = enough_told (g.R.Lookup.keeping c.args.from.now).told (scope_seen c.args.scope.now) c.args.over c.pages.walk c.args.gathered.now c.pages.gathered
            (sym c.queue-queue.ensures ∙ sym (to_z-of_z w64 c.queue-queue.result (subst (SFits w64) (sym c.queue-queue.ensures) fits)) ∙ c.has_enough.ensures.queue c.if-has_enough.true) (c.has_enough.ensures.most c.if-has_enough.true)
            c.pages.invariant.found;
      };
    }

pub returns : goal.returns
returns g c = record {
  most = c.pages.invariant.most;
  reads = record {
    kept = c.pages.invariant.kept;
    same = c.pages.invariant.same;
    cause = cause-ok tt c.pages.invariant.goes;
    told = all_told (g.R.Lookup.keeping c.args.from.now).told (scope_seen c.args.scope.now) c.args.over c.pages.walk c.args.gathered.now c.pages.gathered (sym c.is_done.ensures ∙ c.pages-test.false) c.pages.invariant.found;
  };
}
