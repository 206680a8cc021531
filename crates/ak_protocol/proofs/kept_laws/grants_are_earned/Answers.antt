use Rattle.ak_protocol.proofs.Kept.{grants_are_earned}
use Rattle.ak_protocol.proofs.kept_laws.grants_are_earned.Goals as goal

pub returns : goal.returns
returns c = grants_are_earned
