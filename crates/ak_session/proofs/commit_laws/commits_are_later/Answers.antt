use Rattle.ak_session.proofs.CommitLaws.{commits_are_later}
use Rattle.ak_session.proofs.commit_laws.commits_are_later.Goals as goal

pub returns : goal.returns
returns c = commits_are_later
