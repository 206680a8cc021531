use Rattle.std.proofs.Common.{List, sym, subst}
use Rattle.ak_undo.specs.Steps.{IsStepInRange}
use Rattle.ak_undo.specs.declared.steps.Before.{Before}
use Rattle.ak_edit.proofs.Stepping.{step_in_range}
use Rattle.ak_edit.proofs.ends.carry_out.Goals as goal

pub push-requires : goal.push-requires
push-requires g c =
    subst (λ (rows : List Before). IsStepInRange (record { rows = rows; head = c.args.plan.before.conf; tags = c.args.plan.before.tags })) (sym c.in_ok-rows.ensures.before)
    (step_in_range c.args.plan c.requires.before)
