use Rattle.ak_lab.specs.LabStates.{opened_lab}
use Rattle.ak_lab_joins.proofs.BreaksPlanned.{crossed_uses_up, server_uses_up, sync_uses_up}
use Rattle.ak_lab_joins.proofs.Unlike.{all_unlike}
use Rattle.ak_lab_joins.proofs.lab_laws.syncs_use_up_breaks.Goals as goal

pub returns : goal.returns
returns c = record {
  devices = sync_uses_up;
  servers = server_uses_up;
  crossings = crossed_uses_up;
  unlike = λ opening all s printed goes. all_unlike 1 all (opened_lab opening) s printed goes tt;
}
