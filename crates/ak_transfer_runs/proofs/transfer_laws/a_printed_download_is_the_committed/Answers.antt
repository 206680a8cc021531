use Rattle.ak_transfer_runs.proofs.TransferEnds.{printed_download}
use Rattle.ak_transfer_runs.proofs.transfer_laws.a_printed_download_is_the_committed.Goals as goal

pub returns : goal.returns
returns g c = printed_download
