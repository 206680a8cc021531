use Rattle.ak_session.proofs.CheckLaws.{checks_go_on, checks_tell}
use Rattle.ak_session.proofs.check_laws.checks_are_decided.Goals as goal

pub returns : goal.returns
returns c = record { goes_on = checks_go_on; told = checks_tell }
