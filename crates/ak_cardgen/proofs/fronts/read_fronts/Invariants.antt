use Rattle.std.proofs.Common.{◌≡◌, drop}
use Rattle.ak_cardgen.specs.Generation.{fronts_fault}
use Rattle.ak_cardgen.proofs.Generating.{ReadsOn}
use Rattle.ak_cardgen.proofs.fronts.read_fronts.Given as goal

-- with the other fronts, those so far are the fronts
abbrev pub invariant-loop-template : goal.invariant-loop-template
invariant-loop-template l = record {
  read : ReadsOn l.template-index l.templates l.fronts;
  none : fronts_fault (drop l.template-index l.templates) ≡ fronts_fault l.templates;
}
