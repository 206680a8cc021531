use Rattle.ak_lab_completes.proofs.Healing.{stays_joinable}
use Rattle.ak_lab_completes.proofs.lab_completeness.joins_stay_joinable.Goals as goal

pub returns : goal.returns
returns c = stays_joinable
