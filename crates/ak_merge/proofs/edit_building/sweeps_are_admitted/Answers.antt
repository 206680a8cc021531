use Rattle.ak_merge.proofs.Sweeps.{sweeps_are_admitted}
use Rattle.ak_merge.proofs.edit_building.sweeps_are_admitted.Goals as goal

pub returns : goal.returns
returns c = sweeps_are_admitted
