use Rattle.ak_lab.specs.LabStates.{opened_lab}
use Rattle.ak_lab_joins.proofs.Plain.{all_plans, line_plans, no_plans_at_first}
use Rattle.ak_lab_joins.proofs.lab_laws.only_lines_plan.Goals as goal

pub returns : goal.returns
returns c = record {
  lines = line_plans;
  runs = λ opening all s printed none goes. all_plans 1 all (opened_lab opening) s printed (no_plans_at_first opening) none goes;
}
