use Rattle.ak_session.proofs.SyncLaws.{syncs_exchange}
use Rattle.ak_session.proofs.sync_laws.syncs_exchange.Goals as goal

pub returns : goal.returns
returns c = syncs_exchange
