use Rattle.std.proofs.Common.{◌≡◌, ◌++◌, drop, map}
use Rattle.ak_base.specs.declared.cards.Card.{Card}
use Rattle.ak_notes.proofs.additions.added_of.Given as goal

-- with the ids of the other cards, the ids so far are all
abbrev pub invariant-loop-card : goal.invariant-loop-card
invariant-loop-card l = l.cards ++ map (λ (card : Card). card.id) (drop l.card-index l.made.cards) ≡ map (λ (card : Card). card.id) l.made.cards
