use Rattle.ak_merge.proofs.UndoingLaws.{undos_give_back}
use Rattle.ak_merge.proofs.edit_laws.undos_give_back.Goals as goal

pub returns : goal.returns
returns c = undos_give_back
