use Rattle.ak_merge.proofs.ReversalLaws.{steps_fit}
use Rattle.ak_merge.proofs.edit_laws.steps_fit.Goals as goal

pub returns : goal.returns
returns c = steps_fit
