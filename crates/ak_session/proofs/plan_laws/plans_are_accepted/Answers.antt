use Rattle.ak_session.proofs.Accepted.{plans_allowed, plans_go_on}
use Rattle.ak_session.proofs.plan_laws.plans_are_accepted.Goals as goal

pub returns : goal.returns
returns c = record { allowed = plans_allowed; goes_on = plans_go_on }
