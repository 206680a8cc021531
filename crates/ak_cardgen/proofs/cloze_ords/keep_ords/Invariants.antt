use Rattle.std.proofs.Common.{◌≡◌}
use Rattle.ak_cardgen.specs.Generation.{ords_below}
use Rattle.ak_cardgen.proofs.cloze_ords.keep_ords.Given as goal

-- the ords so far
abbrev pub invariant-loop-ord : goal.invariant-loop-ord
invariant-loop-ord l = l.ords ≡ ords_below l.ord l.numbers
