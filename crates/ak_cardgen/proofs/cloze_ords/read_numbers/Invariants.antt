use Rattle.std.proofs.Common.{◌≡◌, ◌++◌, drop}
use Rattle.ak_cardgen.specs.Generation.{numbers_in}
use Rattle.ak_cardgen.proofs.cloze_ords.read_numbers.Given as goal

-- those of the steps so far
abbrev pub invariant-loop-step : goal.invariant-loop-step
invariant-loop-step l = l.numbers.items ++ numbers_in l.face (drop l.step-index l.steps) ≡ numbers_in l.face l.steps
