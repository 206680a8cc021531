use Rattle.ak_protocol.proofs.Syncs.{events_keep_syncs}
use Rattle.ak_protocol.proofs.sync_laws.events_keep_syncs.Goals as goal

pub returns : goal.returns
returns c = events_keep_syncs
