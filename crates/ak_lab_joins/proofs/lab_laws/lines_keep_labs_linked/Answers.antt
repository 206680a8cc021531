use Rattle.ak_lab_joins.proofs.Lines.{line_linked}
use Rattle.ak_lab_joins.proofs.lab_laws.lines_keep_labs_linked.Goals as goal

pub returns : goal.returns
returns c = line_linked c.any_lines_are_steps.ensures
