use Rattle.std.proofs.Common.{◌≡◌, ◌++◌, List, length}
use Rattle.ak_base.specs.declared.cards.Card.{Card}
use Rattle.ak_queue.specs.Gathering.{Gathers}
use Rattle.ak_queue.specs.Scopes.{scope_seen}
use Rattle.ak_queue.proofs.gathered.Gathered.add_cards.Given as goal

-- the cards that were passed are gathered
abbrev pub invariant-loop-card : goal.invariant-loop-card
invariant-loop-card l = (passed : List Card) × Gathers (scope_seen l.scope) passed l.fn.self l.self × (l.cards ≡ passed ++ l.rest)

abbrev pub decreases-loop-card : goal.decreases-loop-card
decreases-loop-card l = length l.rest
