use Rattle.ak_protocol.proofs.Kept.{setbacks_end_sessions}
use Rattle.ak_protocol.proofs.kept_laws.setbacks_end_sessions.Goals as goal

pub returns : goal.returns
returns c = setbacks_end_sessions
