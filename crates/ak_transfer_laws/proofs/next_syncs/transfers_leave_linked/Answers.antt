use Rattle.ak_transfer_laws.proofs.Linking.{downloads_link, uploads_link}
use Rattle.ak_transfer_laws.proofs.next_syncs.transfers_leave_linked.Goals as goal

pub returns : goal.returns
returns c = record { upload = uploads_link; download = downloads_link }
