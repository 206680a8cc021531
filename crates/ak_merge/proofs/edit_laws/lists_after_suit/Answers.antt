use Rattle.ak_merge.proofs.Sweeps.{lists_after_suit}
use Rattle.ak_merge.proofs.edit_laws.lists_after_suit.Goals as goal

pub returns : goal.returns
returns c = lists_after_suit
