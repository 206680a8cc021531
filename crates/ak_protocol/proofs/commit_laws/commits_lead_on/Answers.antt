use Rattle.ak_protocol.proofs.Commits.{commits_lead_on}
use Rattle.ak_protocol.proofs.commit_laws.commits_lead_on.Goals as goal

pub returns : goal.returns
returns c = commits_lead_on
