use Rattle.ak_protocol.proofs.Commits.{only_commits_change}
use Rattle.ak_protocol.proofs.commit_laws.only_commits_change.Goals as goal

pub returns : goal.returns
returns c = only_commits_change
