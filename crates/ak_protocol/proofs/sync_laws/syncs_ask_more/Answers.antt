use Rattle.ak_protocol.proofs.Calls.{syncs_ask_more}
use Rattle.ak_protocol.proofs.sync_laws.syncs_ask_more.Goals as goal

pub returns : goal.returns
returns c = syncs_ask_more
