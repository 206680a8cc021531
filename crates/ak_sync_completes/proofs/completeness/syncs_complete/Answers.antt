use Rattle.ak_sync_completes.proofs.Completing.{completes_faultless, completes_lossy}
use Rattle.ak_sync_completes.proofs.completeness.syncs_complete.Goals as goal

pub returns-clause-faultless : goal.returns-clause-faultless
returns-clause-faultless g c = completes_faultless

pub returns-clause-lossy : goal.returns-clause-lossy
returns-clause-lossy g c = completes_lossy
