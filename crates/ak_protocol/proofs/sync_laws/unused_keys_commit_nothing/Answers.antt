use Rattle.ak_protocol.proofs.Syncs.{unused_keys_commit_nothing}
use Rattle.ak_protocol.proofs.sync_laws.unused_keys_commit_nothing.Goals as goal

pub returns : goal.returns
returns c = unused_keys_commit_nothing
