use Rattle.std.proofs.Common.{w64, SFits, ◌≡◌, refl, ap, ◌∙◌}
use Rattle.std.proofs.lemmas.Int.{to_z-of_z}
use Rattle.std.proofs.lemmas.Result.{err_from_is_err_and}
use Rattle.ak_edit_calls.proofs.Answering.{on_ok-map}
use Rattle.ak_edit.specs.Ends.{FinishedBy}
use Rattle.ak_edit.specs.Overlays.{unchanged}
use Rattle.ak_keep.specs.Keepers.{Keeping, WhereHeld}
use Rattle.ak_lab_devices.proofs.ReviewEdits.{IsPlanInRange, ids_refused, planned_held, reviews_answered, reviews_done}
use Rattle.ak_lab_devices.specs.NewReviews.{AddsReviews, ArePlanned}
use Rattle.ak_lab_devices.specs.ReviewChanges.{reviews_over}
use Rattle.ak_lab_devices.proofs.review_edits.add_reviews.Goals as goal

pub returns-in_err-reviews-clause-ends : goal.returns-in_err-reviews-clause-ends
returns-in_err-reviews-clause-ends g c =
    let k = g.K.Lookup.keeping c.args.keeper.now in
    let fits : SFits w64 c.args.at = c.ranges.at in
    let p = err_from_is_err_and c.from_residual.result c.from_residual.ensures.1 in
    rw (p.1, p.2) (record {
      done = tt;
      same = c.in_err-reviews.ensures.same;
      kept = refl;
      stays = ap (λ (k : Keeping). k.headed) c.in_err-reviews.ensures.same;
      answers = ids_refused _ k c.args.at c.args.plan c.in_err-reviews.field-0.0 (rw (to_z-of_z w64 c.args.at fits) at (rw c.first_name.ensures.name at c.in_err-reviews.ensures.refused));
    })

pub returns-clause-ends : goal.returns-clause-ends
returns-clause-ends g c =
    let k = g.K.Lookup.keeping c.args.keeper.now in
    let now = g.K.Lookup.keeping c.finish.new.keeper in
    let fits : SFits w64 c.args.at = c.ranges.at in
    let over : c.put_reviews.new.change ≡ reviews_over c.in_ok-reviews.reviews.items unchanged = rw c.new-change.ensures at c.in_ok-put_reviews.ensures in
    let range : IsPlanInRange c.args.plan = record { card = c.requires.card; ease = c.requires.ease } in
    let planned : WhereHeld k (λ c0. ArePlanned c.args.at c.args.plan c0 c.in_ok-reviews.reviews.items) =
    planned_held k c.args.at c.args.plan c.in_ok-reviews.reviews.items (rw (to_z-of_z w64 c.args.at fits) at (rw c.first_name.ensures.name at c.in_ok-reviews.ensures.made)) in
    let same = c.in_ok-reviews.ensures.same in
    record {
      done = on_ok-map c.finish.result (FinishedBy c.args.at c.put_reviews.new.change k now c.args.steps.now c.finish.new.steps) (WhereHeld k (λ c0. AddsReviews c.args.at c.args.plan c0 k now c.args.steps.now c.finish.new.steps))
          (reviews_done k now c.args.at c.args.plan c.in_ok-reviews.reviews.items c.put_reviews.new.change c.args.steps.now c.finish.new.steps over planned)
          (rw (same, to_z-of_z w64 c.args.at fits) at c.finish.ensures.ok);
      same = rw same at c.finish.ensures.err;
      kept = c.finish.ensures.kept;
      stays = c.finish.ensures.stays ∙ ap (λ (k : Keeping). k.headed) same;
      answers = reviews_answered k c.args.at c.args.plan c.in_ok-reviews.reviews.items c.put_reviews.new.change c.finish.result range over planned
          (rw same at c.finish.ensures.known) (rw (same, to_z-of_z w64 c.args.at fits) at c.finish.ensures.refused);
    }
