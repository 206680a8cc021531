use Rattle.ak_lab_joins.proofs.Alone.{sync_alone}
use Rattle.ak_lab_joins.proofs.Ends.{keeps_sides}
use Rattle.ak_lab_joins.proofs.lab_laws.other_syncs_keep_sides.Goals as goal

pub returns : goal.returns
returns c = λ account name s t crossed outcome linked room plans other enough ends fresh.
    keeps_sides account name s t outcome linked room (sync_alone name s t crossed outcome ends plans) enough fresh other
