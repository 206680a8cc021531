use Rattle.std.proofs.Common.{◌≡◌}
use Rattle.ak_template.specs.Clozes.{borne}
use Rattle.ak_template.proofs.clozes.borne_numbers.Given as goal

abbrev pub invariant-loop-last : goal.invariant-loop-last
invariant-loop-last l = l.found.items ≡ borne l.last l.numbers
