use Rattle.ak_sync_completes.proofs.Running.{run_ends_lossy, run_ends_well}
use Rattle.ak_sync_completes.proofs.runs.runs_complete.Goals as goal

pub returns-clause-faultless : goal.returns-clause-faultless
returns-clause-faultless g c = run_ends_well

pub returns-clause-lossy : goal.returns-clause-lossy
returns-clause-lossy g c = run_ends_lossy
