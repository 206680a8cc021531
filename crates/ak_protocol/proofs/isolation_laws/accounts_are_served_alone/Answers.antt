use Rattle.ak_protocol.proofs.Isolation.{accounts_are_served_alone}
use Rattle.ak_protocol.proofs.isolation_laws.accounts_are_served_alone.Goals as goal

pub returns : goal.returns
returns c = accounts_are_served_alone
