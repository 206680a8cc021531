use Rattle.ak_lab_joins.proofs.Ends.{run_linked}
use Rattle.ak_lab_joins.proofs.lab_laws.runs_keep_labs_linked.Goals as goal

pub returns : goal.returns
returns c = run_linked c.any_lines_are_steps.ensures
