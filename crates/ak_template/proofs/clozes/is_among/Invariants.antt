use Rattle.std.proofs.Common.{◌≡◌, drop}
use Rattle.ak_template.specs.Clozes.{among}
use Rattle.ak_template.proofs.clozes.is_among.Given as goal

abbrev pub invariant-loop-other : goal.invariant-loop-other
invariant-loop-other l = among l.number l.numbers ≡ among l.number (drop l.other-index l.numbers)
