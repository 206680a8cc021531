use Rattle.ak_merge.proofs.UndoingLaws.{steps_still_fit}
use Rattle.ak_merge.proofs.edit_laws.steps_still_fit.Goals as goal

pub returns : goal.returns
returns c = steps_still_fit
