use Rattle.ak_merge.proofs.CommitLaws.{commits_keep_links}
use Rattle.ak_merge.proofs.commit_laws.commits_keep_links.Goals as goal

pub returns : goal.returns
returns c = commits_keep_links
