use Rattle.ak_session.proofs.CommitLaws.{finishes_commit, finishes_in_range, finish_moments}
use Rattle.ak_session.proofs.commit_laws.finishes_are_commits.Goals as goal

pub returns : goal.returns
returns c = record { commits = finishes_commit; in_range = finishes_in_range; moment = finish_moments }
