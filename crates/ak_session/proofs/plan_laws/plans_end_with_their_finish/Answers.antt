use Rattle.ak_session.proofs.PlanLaws.{plan_asks, each_planned, finish_is_last}
use Rattle.ak_session.proofs.plan_laws.plans_end_with_their_finish.Goals as goal

pub returns : goal.returns
returns c = record { asked = plan_asks; each = each_planned; finish = finish_is_last }
