use Rattle.ak_base.proofs.Burials.{names_exactly}
use Rattle.ak_base.proofs.laws.name_and_grave.Goals as goal

pub returns : goal.returns
returns c = names_exactly
