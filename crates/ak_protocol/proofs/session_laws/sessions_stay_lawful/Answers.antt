use Rattle.ak_protocol.proofs.Lawful.{sessions_stay_lawful}
use Rattle.ak_protocol.proofs.session_laws.sessions_stay_lawful.Goals as goal

pub returns : goal.returns
returns c = sessions_stay_lawful
