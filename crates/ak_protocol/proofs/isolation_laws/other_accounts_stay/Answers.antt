use Rattle.ak_protocol.proofs.Isolation.{other_accounts_stay}
use Rattle.ak_protocol.proofs.isolation_laws.other_accounts_stay.Goals as goal

pub returns : goal.returns
returns c = other_accounts_stay
