use Rattle.ak_session.proofs.PlanLaws.{plans_are_short}
use Rattle.ak_session.proofs.plan_laws.plans_are_short.Goals as goal

pub returns : goal.returns
returns c = plans_are_short
