use Rattle.ak_protocol.proofs.PastReplies.{replies_are_past}
use Rattle.ak_protocol.proofs.session_laws.replies_are_past.Goals as goal

pub returns : goal.returns
returns c = replies_are_past
