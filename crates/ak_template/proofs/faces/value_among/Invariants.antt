use Rattle.std.proofs.Common.{◌≡◌, drop}
use Rattle.ak_template.specs.Pages.{pair_value}
use Rattle.ak_template.proofs.faces.value_among.Given as goal

abbrev pub invariant-loop-pair : goal.invariant-loop-pair
invariant-loop-pair l = pair_value l.pairs l.name ≡ pair_value (drop l.pair-index l.pairs) l.name
