use Rattle.ak_transfer_runs.proofs.TransferEnds.{never}
use Rattle.ak_transfer_runs.proofs.transfer_laws.a_download_never_commits.Goals as goal

pub returns : goal.returns
returns g c = never
