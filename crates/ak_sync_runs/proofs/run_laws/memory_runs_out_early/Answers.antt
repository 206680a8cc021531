use Rattle.ak_sync_runs.proofs.Telling.{out_early}
use Rattle.ak_sync_runs.proofs.run_laws.memory_runs_out_early.Goals as goal

pub returns : goal.returns
returns g c = out_early
