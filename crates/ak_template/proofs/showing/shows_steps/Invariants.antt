use Rattle.std.proofs.Common.{◌≡◌, ◌≤◌, drop}
use Rattle.ak_template.specs.Pages.{walk_shows}
use Rattle.ak_template.proofs.showing.shows_steps.Given as goal

abbrev pub invariant-loop-step : goal.invariant-loop-step
invariant-loop-step l = record { few : l.idle ≤ l.step-index; left : walk_shows l.face l.idle (drop l.step-index l.steps) ≡ walk_shows l.face 0 l.steps }
