use Rattle.ak_merge.proofs.FaultLaws.{first_fault_is_least}
use Rattle.ak_merge.proofs.laws.first_fault_is_least.Goals as goal

pub returns : goal.returns
returns c = first_fault_is_least
