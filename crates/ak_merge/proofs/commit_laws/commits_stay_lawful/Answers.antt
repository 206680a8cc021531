use Rattle.ak_merge.proofs.CommitLaws.{commits_stay_lawful}
use Rattle.ak_merge.proofs.commit_laws.commits_stay_lawful.Goals as goal

pub returns : goal.returns
returns c = commits_stay_lawful
