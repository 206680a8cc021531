use Rattle.ak_protocol.proofs.Repeats.{asked_again}
use Rattle.ak_protocol.proofs.repeat_laws.asked_again.Goals as goal

pub returns : goal.returns
returns c = asked_again
