use Rattle.std.proofs.Common.{◌∙◌, refl, rules, w64}
use Rattle.std.proofs.lemmas.Int.{to_z-of_z}
use mir.Val.{SFits}
use Rattle.ak_faults.proofs.Healths.{goes_further, goes_nowhere}
use Rattle.ak_search.proofs.Telling.{none_shown_told, reviews_told}
use Rattle.ak_search.proofs.answers.read_answers.Goals as goal

pub pages-preserved : goal.pages-preserved
pages-preserved g c = record {
  kept = c.next.ensures.reads.kept ∙ c.pages.invariant.kept;
  same = c.next.ensures.reads.same ∙ c.pages.invariant.same;
  goes = goes_further c.pages.invariant.goes c.next.ensures.reads.cause.goes;
  shown = reviews_told (g.R.Lookup.keeping c.args.from.now).told c.args.least.now c.pages.answers c.add_rows.new.self c.pages.walk c.next.new.self c.in_ok-page.page
      c.pages.invariant.shown (rw c.pages.invariant.same at c.in_ok-page.ensures.reads.told) (rw c.as_slice.ensures at c.in_ok-add_rows.ensures);
}

pub pages-init : goal.pages-init
pages-init g c =
    let fits : SFits w64 c.id_before.result = search rules in
    record {
      kept = refl;
      same = refl;
      goes = goes_nowhere (g.R.Lookup.health c.args.from.now);
      shown = none_shown_told (g.R.Lookup.keeping c.args.from.now).told c.args.least.now c.id_before.result c.new-answers.result c.past-walk.result (rw (to_z-of_z w64 c.id_before.result fits) at c.past-walk.ensures)
          c.id_before.ensures.low c.id_before.ensures.before c.new-answers.ensures c.held-held.ensures.known.current;
    }
