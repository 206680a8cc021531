use Rattle.ak_lab_joins.proofs.Ends.{unchanged_agrees}
use Rattle.ak_lab_joins.proofs.lab_laws.unchanged_syncs_agree.Goals as goal

pub returns : goal.returns
returns c = unchanged_agrees
