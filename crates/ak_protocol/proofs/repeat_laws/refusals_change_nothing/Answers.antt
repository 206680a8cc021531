use Rattle.ak_protocol.proofs.Replies.{refusals_change_nothing}
use Rattle.ak_protocol.proofs.repeat_laws.refusals_change_nothing.Goals as goal

pub returns : goal.returns
returns c = refusals_change_nothing
