use Rattle.std.proofs.Common.{◌≡◌, ◌++◌, drop, map}
use Rattle.ak_base.specs.declared.cards.Card.{Card}
use Rattle.ak_types.proofs.retyped_notes.ords_of.Given as goal

-- with those of the other cards, the ords so far are all
abbrev pub invariant-loop-card : goal.invariant-loop-card
invariant-loop-card l = l.ords ++ map (λ (card : Card). card.ord) (drop l.card-index l.cards) ≡ map (λ (card : Card). card.ord) l.cards
