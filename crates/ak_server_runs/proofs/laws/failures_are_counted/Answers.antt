use Rattle.ak_server_runs.proofs.CountedFailures.{failures_counted}
use Rattle.ak_server_runs.proofs.laws.failures_are_counted.Goals as goal

pub returns : goal.returns
returns g c = failures_counted g.row.L.Denot g.row.K.Denot
