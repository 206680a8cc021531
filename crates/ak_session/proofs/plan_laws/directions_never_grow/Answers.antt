use Rattle.ak_session.proofs.PlanLaws.{list_fewer, pushes_fewer}
use Rattle.ak_session.proofs.plan_laws.directions_never_grow.Goals as goal

pub returns : goal.returns
returns c = record { pulled = list_fewer; pushed = pushes_fewer }
