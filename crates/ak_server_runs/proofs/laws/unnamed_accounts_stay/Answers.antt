use Rattle.ak_server_runs.proofs.OneRunLaws.{unnamed_stays}
use Rattle.ak_server_runs.proofs.laws.unnamed_accounts_stay.Goals as goal

pub returns : goal.returns
returns g c = unnamed_stays
