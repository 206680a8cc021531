use Rattle.ak_transfer_runs.proofs.TransferEnds.{once}
use Rattle.ak_transfer_runs.proofs.transfer_laws.an_upload_commits_once.Goals as goal

pub returns : goal.returns
returns g c = once
