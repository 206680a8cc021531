use Rattle.ak_protocol.proofs.WholeSyncs.{undisturbed_syncs_commit}
use Rattle.ak_protocol.proofs.content_laws.undisturbed_syncs_commit.Goals as goal

pub returns : goal.returns
returns c = undisturbed_syncs_commit
