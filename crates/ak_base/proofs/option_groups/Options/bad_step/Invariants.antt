use Rattle.std.proofs.Common.{◌≡◌, drop}
use Rattle.ak_base.specs.OptionGroups.{bad_step}
use Rattle.ak_base.proofs.option_groups.Options.bad_step.Given as goal

-- no step so far has a fault
abbrev pub invariant-loop-step : goal.invariant-loop-step
invariant-loop-step l = bad_step l.longest l.column (drop l.step-index l.steps) ≡ bad_step l.longest l.column l.steps
