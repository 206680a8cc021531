use Rattle.std.proofs.Common.{◌≡◌, ◌++◌, drop, map}
use Rattle.ak_base.specs.declared.cards.Card.{Card}
use Rattle.ak_base.specs.declared.rows.Row.TheVariants as rows
use Rattle.ak_imports.specs.OwnTests.{rows_made}
use Rattle.ak_imports.proofs.own_tests.rows_made.Given as goal

-- with those of the cards that are left, the rows so far are all
abbrev pub invariant-loop-card : goal.invariant-loop-card
invariant-loop-card l = l.rows.items ++ map (λ (card : Card). rows.Card card) (drop l.card-index l.card-items) ≡ rows_made l.made
