use Rattle.std.proofs.Common.{refl}
use Rattle.ak_lab.specs.LabStates.{opened_lab}
use Rattle.ak_lab_joins.proofs.Counts.{all_uncrossed, few_lines_leave_room}
use Rattle.ak_lab_joins.proofs.Plain.{no_plans_at_first}
use Rattle.ak_lab_joins.proofs.lab_laws.few_lines_leave_a_session_key.Goals as goal

pub returns : goal.returns
returns c = record {
  uncrossed = λ opening all s printed few goes. few_lines_leave_room all (opened_lab opening) s printed refl few goes;
  unplanned = λ opening all s printed none goes. all_uncrossed 1 all (opened_lab opening) s printed (no_plans_at_first opening) none goes;
}
