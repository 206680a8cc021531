use Rattle.ak_sync_runs.proofs.Telling.{any_end}
use Rattle.ak_sync_runs.proofs.run_laws.a_sync_commits_once.Goals as goal

pub returns : goal.returns
returns g c = any_end
