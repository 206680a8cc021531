use Rattle.ak_protocol.proofs.Kept.{views_end_sessions}
use Rattle.ak_protocol.proofs.kept_laws.views_end_sessions.Goals as goal

pub returns : goal.returns
returns c = views_end_sessions
