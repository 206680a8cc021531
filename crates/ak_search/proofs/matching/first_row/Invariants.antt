use Rattle.std.proofs.Common.{◌≡◌, ◌∷◌, true}
use Rattle.ak_search.specs.Matching.{falses}
use Rattle.ak_search.proofs.matching.first_row.Given as goal

abbrev pub invariant-loop : goal.invariant-loop
invariant-loop l = l.row.items ≡ true ∷ falses l.counter
