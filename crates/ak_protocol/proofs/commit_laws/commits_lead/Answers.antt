use Rattle.ak_protocol.proofs.Commits.{commits_lead}
use Rattle.ak_protocol.proofs.commit_laws.commits_lead.Goals as goal

pub returns : goal.returns
returns c = commits_lead
