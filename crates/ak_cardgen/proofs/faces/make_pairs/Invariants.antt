use Rattle.std.proofs.Common.{◌≡◌, ◌++◌, drop}
use Rattle.ak_cardgen.specs.Generation.{pairs}
use Rattle.ak_cardgen.proofs.faces.make_pairs.Given as goal

-- those so far are paired
abbrev pub invariant-loop-place : goal.invariant-loop-place
invariant-loop-place l = l.made ++ pairs (drop l.place l.defs) (drop l.place l.texts) ≡ pairs l.defs l.texts
