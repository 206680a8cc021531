use Rattle.ak_protocol.proofs.PastReplies.{next_is_no_repeat}
use Rattle.ak_protocol.proofs.session_laws.next_is_no_repeat.Goals as goal

pub returns : goal.returns
returns c = next_is_no_repeat
