use Rattle.ak_lab_joins.proofs.Lines.{opened_linked}
use Rattle.ak_lab_joins.proofs.Ordered.{opened_ordered}
use Rattle.ak_lab_joins.proofs.lab_laws.opened_labs_are_linked.Goals as goal

pub returns : goal.returns
returns c = record { linked = opened_linked; ordered = opened_ordered }
