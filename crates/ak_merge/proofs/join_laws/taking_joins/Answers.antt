use Rattle.ak_merge.proofs.TakingJoins.{server_takes_all, device_takes_all}
use Rattle.ak_merge.proofs.join_laws.taking_joins.Goals as goal

pub returns : goal.returns
returns c = record { server = server_takes_all; device = device_takes_all }
