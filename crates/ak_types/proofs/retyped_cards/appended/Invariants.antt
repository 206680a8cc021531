use Rattle.std.proofs.Common.{◌≡◌, ◌++◌}
use Rattle.ak_types.proofs.retyped_cards.appended.Given as goal

-- with the other cards, those so far are all
abbrev pub invariant-loop-card : goal.invariant-loop-card
invariant-loop-card l = l.all ++ l.card-iterator.rest.items ≡ l.fn.cards ++ l.fn.others
