use Rattle.ak_template.proofs.Clozing.{prefix_begins, prefix_rest, prefix_none}
use Rattle.ak_template.proofs.clozes.behind_mark.Goals as goal

pub returns-clause-begins : goal.returns-clause-begins
returns-clause-begins c = prefix_begins c.args.mark.now c.args.text.now c.strip_prefix.result c.strip_prefix.ensures.cases

pub returns-clause-rest : goal.returns-clause-rest
returns-clause-rest c = prefix_rest c.args.mark.now c.args.text.now c.strip_prefix.result c.strip_prefix.ensures.cases

pub returns-clause-none : goal.returns-clause-none
returns-clause-none c = prefix_none c.args.mark.now c.args.text.now c.strip_prefix.result c.strip_prefix.ensures.cases
