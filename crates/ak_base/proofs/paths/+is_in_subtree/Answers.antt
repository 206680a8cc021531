use Rattle.ak_base.proofs.Pathways.{not_below}
use Rattle.ak_base.proofs.paths.+is_in_subtree.Goals as goal

pub returns-in-Some-None : goal.returns-in-Some-None
returns-in-Some-None n c = not_below c.args.root.now c.args.path.now c.in-Some-None.field-0-0.0.now c.in-Some-None.field-0-0.1.now c.in-Some-None.ensures.first c.in-Some-None.ensures'.one
