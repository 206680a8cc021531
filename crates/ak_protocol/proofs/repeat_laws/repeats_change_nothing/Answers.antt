use Rattle.ak_protocol.proofs.Repeats.{repeats_change_nothing}
use Rattle.ak_protocol.proofs.repeat_laws.repeats_change_nothing.Goals as goal

pub returns : goal.returns
returns c = repeats_change_nothing
