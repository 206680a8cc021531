use Rattle.std.proofs.Common.{arith}
use Rattle.ak_cardgen.proofs.Generating.{read_end}
use Rattle.ak_cardgen.proofs.fronts.read_fronts.Goals as goal

pub returns-clause-ok : goal.returns-clause-ok
returns-clause-ok c = read_end c.loop-template.template-index c.args.templates.now c.loop-template.fronts (omega arith) c.loop-template.invariant.read
