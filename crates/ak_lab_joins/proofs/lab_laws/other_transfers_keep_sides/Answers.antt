use Rattle.ak_lab_joins.proofs.Alone.{transfer_alone}
use Rattle.ak_lab_joins.proofs.Transfers.{keeps_sides}
use Rattle.ak_lab_joins.proofs.lab_laws.other_transfers_keep_sides.Goals as goal

pub returns : goal.returns
returns c = λ direction account name s t outcome linked room other ends.
    keeps_sides direction account name s t outcome linked room other (transfer_alone direction name s t outcome ends)
