use Rattle.ak_lab_joins.proofs.Crossed.{sync_leaves}
use Rattle.ak_lab_joins.proofs.lab_laws.late_finishes_join.Goals as goal

pub returns : goal.returns
returns c = λ account name s t crossed outcome linked room ended fresh. (sync_leaves account name s t crossed outcome linked room ended fresh).late
