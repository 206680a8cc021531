use Rattle.ak_protocol.proofs.InARow.{undisturbed_sessions_go_on}
use Rattle.ak_protocol.proofs.session_laws.undisturbed_sessions_go_on.Goals as goal

pub returns : goal.returns
returns c = undisturbed_sessions_go_on
