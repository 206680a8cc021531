use Rattle.ak_server_runs.proofs.OneRunLaws.{runs_once}
use Rattle.ak_server_runs.proofs.laws.runs_are_one_run.Goals as goal

pub returns : goal.returns
returns g c = runs_once
