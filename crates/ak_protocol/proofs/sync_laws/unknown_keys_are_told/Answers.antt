use Rattle.ak_protocol.proofs.Syncs.{unknown_keys_are_told}
use Rattle.ak_protocol.proofs.sync_laws.unknown_keys_are_told.Goals as goal

pub returns : goal.returns
returns c = unknown_keys_are_told
