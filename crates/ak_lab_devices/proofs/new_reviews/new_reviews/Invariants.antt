use Rattle.std.proofs.Common.{◌≡◌, ◌≤ℤ◌, pos}
use Rattle.ak_faults.specs.Causes.{GoesOn}
use Rattle.ak_keep.specs.Keepers.{WhereTold}
use Rattle.ak_lab_devices.proofs.NewReviews.{MakesMore}
use Rattle.ak_lab_devices.proofs.new_reviews.new_reviews.Given as goal

-- with those that are left from the next name on, the reviews so far are all
abbrev pub invariant-reviews : goal.invariant-reviews
invariant-reviews g l = record {
  id : pos 1 ≤ℤ l.first.id;
  made : WhereTold (g.K.Lookup.keeping l.fn.keeper) (λ h. MakesMore h.rows l.fn.plan l.fn.start l.fn.plan.count l.left l.first l.reviews.items);
  same : g.K.Lookup.keeping l.keeper ≡ g.K.Lookup.keeping l.fn.keeper;
  goes : GoesOn (g.K.Lookup.health l.fn.keeper) (g.K.Lookup.health l.keeper);
}

abbrev pub decreases-reviews : goal.decreases-reviews
decreases-reviews g l = l.left
