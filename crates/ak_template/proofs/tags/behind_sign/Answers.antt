use Rattle.ak_template.proofs.Cutting.{no_sign}
use Rattle.ak_template.proofs.tags.behind_sign.Goals as goal

pub returns-clause-none : goal.returns-clause-none
returns-clause-none c = no_sign c.args.sign c.args.text.now c.strip_prefix.result c.requires.1 c.strip_prefix.ensures.cases
