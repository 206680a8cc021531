use Rattle.ak_merge.proofs.ReversalLists.{lists_suit}
use Rattle.ak_merge.proofs.edit_laws.lists_suit.Goals as goal

pub returns : goal.returns
returns c = lists_suit
