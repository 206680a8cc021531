use Rattle.ak_base.proofs.Burials.{graves_exactly}
use Rattle.ak_base.proofs.laws.graves_and_rows.Goals as goal

pub returns : goal.returns
returns c = graves_exactly
