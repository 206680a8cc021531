use Rattle.std.proofs.Common.{ℕ, ap}
use Rattle.ak_base.specs.declared.rows.Row.TheVariants as rows
use Rattle.ak_made_collections.proofs.Runs.{one_more}
use Rattle.ak_made_collections.proofs.made_collections.push_cards.Goals as goal
use Rattle.ak_made_collections.specs.MadeCards.{made_card}

pub loop-number-preserved : goal.loop-number-preserved
loop-number-preserved c =
    one_more (λ (number : ℕ). rows.Card (made_card c.args.seed number)) c.loop-number.number c.args.rows.now.items c.loop-number.rows.items c.push.new.self.items
    (rows.Card c.in_ok-card.card) c.in_ok-push.ensures.items (ap rows.Card c.in_ok-card.ensures) c.loop-number.invariant
