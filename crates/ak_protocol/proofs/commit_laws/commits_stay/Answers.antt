use Rattle.ak_protocol.proofs.Calls.{commits_grow}
use Rattle.ak_protocol.proofs.commit_laws.commits_stay.Goals as goal

pub returns : goal.returns
returns c = commits_grow
