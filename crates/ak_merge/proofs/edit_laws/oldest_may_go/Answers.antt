use Rattle.ak_merge.proofs.ReversalLists.{oldest_may_go}
use Rattle.ak_merge.proofs.edit_laws.oldest_may_go.Goals as goal

pub returns : goal.returns
returns c = oldest_may_go
