use Rattle.ak_merge.proofs.ReversalLists.{lists_suit_after_undo}
use Rattle.ak_merge.proofs.edit_laws.lists_suit_after_undo.Goals as goal

pub returns : goal.returns
returns c = lists_suit_after_undo
