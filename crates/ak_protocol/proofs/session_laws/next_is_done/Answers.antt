use Rattle.ak_protocol.proofs.Kept.{next_is_done}
use Rattle.ak_protocol.proofs.session_laws.next_is_done.Goals as goal

pub returns : goal.returns
returns c = next_is_done
