use Rattle.std.proofs.Common.{rules}
use Rattle.ak_template.proofs.Bearing.{found_each}
use Rattle.ak_template.proofs.Numbering.{found_ascend}
use Rattle.ak_template.proofs.clozes.cloze_numbers.Goals as goal

pub returns-clause-ascending : goal.returns-clause-ascending
returns-clause-ascending c = found_ascend c.args.text.now c.borne_numbers.result (search rules)

pub returns-clause-each : goal.returns-clause-each
returns-clause-each c = found_each c.args.text.now c.borne_numbers.result (search rules)
