use Rattle.ak_sync_runs.proofs.Telling.{printed_finish}
use Rattle.ak_sync_runs.proofs.run_laws.a_printed_finish_joins.Goals as goal

pub returns : goal.returns
returns g c = printed_finish
