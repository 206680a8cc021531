use Rattle.ak_template.proofs.Grammars.{no_fault}
use Rattle.ak_cardgen.proofs.fronts.read_front.Goals as goal

-- a text with a tree has no fault
pub returns-in-Ok-clause-none : goal.returns-in-Ok-clause-none
returns-in-Ok-clause-none c = no_fault c.args.text.now c.in-Ok.ensures.tree.0 c.in-Ok.ensures.tree.1
