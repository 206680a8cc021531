use Rattle.ak_merge.proofs.ConflictLaws.{first_torn_least}
use Rattle.ak_merge.proofs.laws.first_conflict_is_least.Goals as goal

pub returns : goal.returns
returns c = first_torn_least
