use Rattle.std.proofs.Common.{◌≡◌, ◌++◌, drop}
use Rattle.ak_template.specs.Clozes.{gaps}
use Rattle.ak_template.proofs.clozes.gap_numbers.Given as goal

abbrev pub invariant-loop-part : goal.invariant-loop-part
invariant-loop-part l = l.numbers.items ++ gaps (drop l.part-index l.parts) ≡ gaps l.parts
