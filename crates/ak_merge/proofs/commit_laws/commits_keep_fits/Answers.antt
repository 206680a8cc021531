use Rattle.ak_merge.proofs.CommitLaws.{commits_keep_fits}
use Rattle.ak_merge.proofs.commit_laws.commits_keep_fits.Goals as goal

pub returns : goal.returns
returns c = commits_keep_fits
