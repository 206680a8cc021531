use Rattle.std.proofs.Common.{ℕ, ◌≡◌, ◌-◌, ◌≤◌, take, drop}
use Rattle.std.specs.List.{sum}
use Rattle.ak_sched.specs.Steps.{delays}
use Rattle.ak_sched.proofs.steps.steps_today.Given as goal

-- the sum of the first delays so far, which fits
pub record Fits (total : ℕ) (sum_so_far : ℕ) (seconds_left : ℕ) : Type 0 where
  pub is : total ≡ sum_so_far
  pub within : total ≤ seconds_left

abbrev pub invariant-loop-done : goal.invariant-loop-done
invariant-loop-done l = Fits l.total (sum (take l.done (drop (l.count - l.most) (delays l.steps)))) l.seconds_left
