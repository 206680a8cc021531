use Rattle.std.proofs.Common.{ℕ, ap}
use Rattle.ak_base.specs.declared.rows.Row.TheVariants as rows
use Rattle.ak_made_collections.proofs.Runs.{one_more}
use Rattle.ak_made_collections.proofs.made_collections.push_reviews.Goals as goal
use Rattle.ak_made_collections.specs.MadeCards.{made_review}

pub loop-number-preserved : goal.loop-number-preserved
loop-number-preserved c =
    one_more (λ (number : ℕ). rows.Review (made_review c.args.seed number)) c.loop-number.number c.args.rows.now.items c.loop-number.rows.items c.push.new.self.items
    (rows.Review c.made_review.result) c.in_ok-push.ensures.items (ap rows.Review c.made_review.ensures) c.loop-number.invariant
