use Rattle.ak_base.proofs.Cutting.{parts_has, parts_front, parts_behind, parts_length, parts_none}
use Rattle.ak_base.proofs.cuts.cut.Goals as goal

pub returns-clause-has : goal.returns-clause-has
returns-clause-has c = parts_has c.args.separator.now c.args.text.now c.split_once.result c.requires c.split_once.ensures.cases

pub returns-clause-front : goal.returns-clause-front
returns-clause-front c = parts_front c.args.separator.now c.args.text.now c.split_once.result c.requires c.split_once.ensures.cases

pub returns-clause-behind : goal.returns-clause-behind
returns-clause-behind c = parts_behind c.args.separator.now c.args.text.now c.split_once.result c.requires c.split_once.ensures.cases

pub returns-clause-length : goal.returns-clause-length
returns-clause-length c = parts_length c.args.separator.now c.args.text.now c.split_once.result c.split_once.ensures.cases

pub returns-clause-none : goal.returns-clause-none
returns-clause-none c = parts_none c.args.separator.now c.args.text.now c.split_once.result c.split_once.ensures.cases
