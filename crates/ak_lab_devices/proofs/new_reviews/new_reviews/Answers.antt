use Rattle.std.proofs.Common.{◌≡◌, ◌≤ℤ◌, ◌-◌, suc, pos, refl, ◌∙◌, arith, rules, w64, SFits}
use Rattle.std.proofs.lemmas.Int.{ints, to_z-of_z}
use Rattle.std.proofs.lemmas.Result.{err_from_is_err_and}
use Rattle.ak_faults.proofs.Healths.{goes_further, goes_nowhere}
use Rattle.ak_lab_devices.proofs.NewReviews.{made_all, made_answers, makes_all, makes_one, one_lacks}
use Rattle.ak_lab_devices.proofs.new_reviews.new_reviews.Goals as goal

pub reviews-init : goal.reviews-init
reviews-init g c = record {
  id = c.requires;
  made = rw c.new-reviews.ensures.items (makes_all (g.K.Lookup.keeping c.args.keeper.now) c.args.plan c.args.start c.args.plan.count);
  same = refl;
  goes = goes_nowhere (g.K.Lookup.health c.args.keeper.now);
}

pub reviews-preserved : goal.reviews-preserved
reviews-preserved g c =
    let k = g.K.Lookup.keeping c.args.keeper.now in
    let ahead : pos 1 ≤ℤ c.next-first.result.id = rw c.next-first.ensures (grind (arith, ints, c.reviews.invariant.id, c.in_ok-name.ensures.range.1.low)) in
    let less : c.reviews.left ≡ suc (c.reviews.left - 1) = omega arith in
    let fits : SFits w64 c.in_ok-name.name.id = search rules in
    record {
      id = ahead;
      made = rw (c.next-first.ensures, c.in_ok-push.ensures.items)
          (makes_one k c.args.plan c.args.start c.args.plan.count c.reviews.left (c.reviews.left - 1) c.reviews.first c.in_ok-name.name c.reviews.reviews.items c.new_review.result
          less (rw (to_z-of_z w64 c.in_ok-name.name.id fits) at c.new_review.ensures) (rw c.reviews.invariant.same at c.in_ok-name.ensures.free) c.reviews.invariant.made);
      same = c.in_ok-name.ensures.same ∙ c.reviews.invariant.same;
      goes = goes_further c.reviews.invariant.goes c.in_ok-name.ensures.cause.goes;
    }

pub returns-in_err-name-clause-refused : goal.returns-in_err-name-clause-refused
returns-in_err-name-clause-refused g c =
    let less : c.reviews.left ≡ suc (c.reviews.left - 1) = omega arith in
    let p = err_from_is_err_and c.from_residual.result c.from_residual.ensures.1 in
    rw (p.1, p.2) (one_lacks _ (g.K.Lookup.keeping c.args.keeper.now) c.args.plan c.args.start c.args.plan.count c.reviews.left (c.reviews.left - 1) c.reviews.first c.reviews.reviews.items c.in_err-name.field-0.0
    less (rw c.reviews.invariant.same at c.in_err-name.ensures.none) c.reviews.invariant.made)

pub returns-clause-made : goal.returns-clause-made
returns-clause-made g c =
    made_all (g.K.Lookup.keeping c.args.keeper.now) c.args.plan c.args.start c.args.plan.count c.reviews.left c.reviews.first c.reviews.reviews.items (omega arith) c.reviews.invariant.made

pub returns-clause-refused : goal.returns-clause-refused
returns-clause-refused g c =
    made_answers _ (g.K.Lookup.keeping c.args.keeper.now) c.args.plan c.args.start c.args.plan.count c.reviews.reviews.items c.reviews.reviews
    (made_all (g.K.Lookup.keeping c.args.keeper.now) c.args.plan c.args.start c.args.plan.count c.reviews.left c.reviews.first c.reviews.reviews.items (omega arith) c.reviews.invariant.made)
