use Rattle.std.proofs.Common.{◌≡◌}
use Rattle.ak_lab_devices.specs.ReviewChanges.{reviews_over}
use Rattle.ak_lab_devices.proofs.review_edits.put_reviews.Given as goal

-- with the other reviews, the changes so far are those of all
abbrev pub invariant-loop-review : goal.invariant-loop-review
invariant-loop-review l = reviews_over l.review-iterator.rest.items l.change ≡ reviews_over l.fn.reviews.items l.fn.change
