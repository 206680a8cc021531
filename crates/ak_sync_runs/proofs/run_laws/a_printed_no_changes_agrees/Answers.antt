use Rattle.ak_sync_runs.proofs.Telling.{printed_agreement}
use Rattle.ak_sync_runs.proofs.run_laws.a_printed_no_changes_agrees.Goals as goal

pub returns : goal.returns
returns g c = printed_agreement
