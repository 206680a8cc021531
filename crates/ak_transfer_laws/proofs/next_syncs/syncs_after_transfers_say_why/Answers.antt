use Rattle.ak_transfer_laws.proofs.NextSyncs.{after_download, after_upload, elsewhere}
use Rattle.ak_transfer_laws.proofs.next_syncs.syncs_after_transfers_say_why.Goals as goal

pub returns : goal.returns
returns g c = record { upload = after_upload; download = after_download; elsewhere = elsewhere }
