use Rattle.ak_filters.proofs.Signs.{last_lacks, last_none}
use Rattle.ak_filters.proofs.readings.cut_last.Goals as goal

pub returns-clause-last : goal.returns-clause-last
returns-clause-last c = last_lacks c.args.separator.now c.args.text.now c.rsplit_once.result c.requires c.rsplit_once.ensures.cases

pub returns-clause-none : goal.returns-clause-none
returns-clause-none c = last_none c.args.separator.now c.args.text.now c.rsplit_once.result c.rsplit_once.ensures.cases
