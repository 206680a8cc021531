use Rattle.std.proofs.Common.{◌≡◌, filter, length, map}
use Rattle.ak_queue.specs.Limits.{is_ancestor, least, most_reviews}
use Rattle.ak_queue.specs.declared.limits.DeckLimits.{DeckLimits}
use Rattle.ak_queue.proofs.limits.most_reviews.Given as goal

-- the least of the limit so far and of those that are left is the least of all
abbrev pub invariant-loop-limit : goal.invariant-loop-limit
invariant-loop-limit l =
    least l.most (map (λ (x : DeckLimits). x.reviews) (filter (λ (x : DeckLimits). is_ancestor x.parts l.root) l.rest)) ≡ most_reviews l.root l.own l.limits

abbrev pub decreases-loop-limit : goal.decreases-loop-limit
decreases-loop-limit l = length l.rest
