use Rattle.ak_protocol.proofs.Isolation.{logs_part}
use Rattle.ak_protocol.proofs.isolation_laws.logs_part.Goals as goal

pub returns : goal.returns
returns c = logs_part
