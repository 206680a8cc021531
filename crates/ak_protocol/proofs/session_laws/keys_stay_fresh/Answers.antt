use Rattle.ak_protocol.proofs.Sessions.{fresh_on}
use Rattle.ak_protocol.proofs.session_laws.keys_stay_fresh.Goals as goal

pub returns : goal.returns
returns c = fresh_on
