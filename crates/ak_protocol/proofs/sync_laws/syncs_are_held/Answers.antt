use Rattle.ak_protocol.proofs.Syncs.{syncs_are_held}
use Rattle.ak_protocol.proofs.sync_laws.syncs_are_held.Goals as goal

pub returns : goal.returns
returns c = syncs_are_held
