use Rattle.ak_session.proofs.CheckLaws.{checks_alone_end}
use Rattle.ak_session.proofs.check_laws.checks_alone_end_sessions.Goals as goal

pub returns : goal.returns
returns c = checks_alone_end
