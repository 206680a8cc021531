use Rattle.ak_sync_runs.proofs.Retrying.{next_heals}
use Rattle.ak_sync_runs.proofs.run_laws.a_lost_finish_is_healed.Goals as goal

pub returns : goal.returns
returns g c = λ spares host status before mid again after old new text ends finished. next_heals spares host status before mid again after old new text ends finished
