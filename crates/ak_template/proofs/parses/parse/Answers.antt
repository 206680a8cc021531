use Rattle.ak_template.proofs.Parsing.{tree_read, no_memory}
use Rattle.ak_template.proofs.Places.{refused_within}
use Rattle.ak_template.proofs.parses.parse.Goals as goal

pub returns-clause-tree : goal.returns-clause-tree
returns-clause-tree c = tree_read c.args.text.now c.read_template.result c.read_template.ensures.none c.read_template.ensures.steps

pub returns-clause-only : goal.returns-clause-only
returns-clause-only c = λ tree h. no_memory c.args.text.now c.read_template.result tree h c.read_template.ensures.fault

pub returns-clause-within : goal.returns-clause-within
returns-clause-within c = refused_within c.args.text.now c.read_template.result c.read_template.ensures.fault
