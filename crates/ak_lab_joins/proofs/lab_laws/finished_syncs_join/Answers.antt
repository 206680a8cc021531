use Rattle.ak_lab_joins.proofs.Ends.{finished_joins}
use Rattle.ak_lab_joins.proofs.lab_laws.finished_syncs_join.Goals as goal

pub returns : goal.returns
returns c = finished_joins
