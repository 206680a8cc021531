use Rattle.ak_protocol.proofs.Sessions.{sessions_hold_fronts}
use Rattle.ak_protocol.proofs.session_laws.sessions_hold_fronts.Goals as goal

pub returns : goal.returns
returns c = sessions_hold_fronts
