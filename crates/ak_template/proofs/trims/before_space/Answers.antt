use Rattle.ak_template.proofs.Cutting.{no_space, one_space}
use Rattle.ak_template.proofs.trims.before_space.Goals as goal

pub returns-clause-step : goal.returns-clause-step
returns-clause-step c = one_space c.args.text.now c.strip_suffix.result c.strip_suffix.ensures.cases

pub returns-clause-none : goal.returns-clause-none
returns-clause-none c = no_space c.args.text.now c.strip_suffix.result c.strip_suffix.ensures.cases
