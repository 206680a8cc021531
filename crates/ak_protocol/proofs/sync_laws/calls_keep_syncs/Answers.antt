use Rattle.ak_protocol.proofs.Syncs.{calls_keep_syncs}
use Rattle.ak_protocol.proofs.sync_laws.calls_keep_syncs.Goals as goal

pub returns : goal.returns
returns c = calls_keep_syncs
