use Rattle.ak_transfer_runs.proofs.TransferEnds.{printed_upload}
use Rattle.ak_transfer_runs.proofs.transfer_laws.a_printed_upload_is_committed.Goals as goal

pub returns : goal.returns
returns g c = printed_upload
