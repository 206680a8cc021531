-- The steps of a card that is learned.
use Rattle.std.specs.Prelude.{◌≡◌, ℕ, ℤ, ◌+◌, ◌-◌, ◌*◌, ◌/◌, ◌<◌, ◌≤◌, ◌&&◌, min, max, List, [], ◌∷◌, map, length, get_or, take, drop, if◌then◌else◌, nat_le, ◌⊎◌}
use Rattle.std.specs.List.{sum}
use Rattle.ak_sched.specs.Counts.{clamped_to_zero}

-- the delays of the steps, in seconds. An empty list is one delay of 60 seconds
abbrev pub delays : List ℤ → List ℕ
delays [] = 60 ∷ []
delays (step ∷ steps) = map clamped_to_zero (step ∷ steps)

-- the delay if that many steps are left; the first one, if there are not as many steps
abbrev pub delay_at : List ℕ → ℕ → ℕ
delay_at ds left = if nat_le 1 left && nat_le left (length ds) then get_or ds (length ds - left) 0 else get_or ds 0 0

-- the delay of Hard: halfway to the next step's, which is twice the delay if there is one step
abbrev pub hard_delay : List ℕ → ℕ → ℕ
hard_delay ds left =
    let delay = delay_at ds left in
    let next = (if nat_le (length ds) 1 then 2 * delay else delay_at ds (left - 1)) in
    (delay + max delay next) / 2

-- how many steps are counted: at least one, and at most all
abbrev pub counted : List ℕ → ℕ → ℕ
counted ds left = max (min left (length ds)) 1

-- that many of the delays, the last ones
abbrev pub last_delays : List ℕ → ℕ → List ℕ
last_delays ds count = drop (length ds - count) ds

-- how many of the steps that are left fit into the seconds of the day: the most that fit, and at least one
pub record IsStepsToday (ds : List ℕ) (seconds_left : ℕ) (left : ℕ) (today : ℕ) : Type 0 where
  pub one : 1 ≤ today
  pub all : today ≤ counted ds left
  pub fits : (today ≡ 1) ⊎ (sum (take today (last_delays ds (counted ds left))) ≤ seconds_left)
  pub most : (more : ℕ) → today < more → more ≤ counted ds left → seconds_left < sum (take more (last_delays ds (counted ds left)))

-- the column `left`: the steps that are left, and 1000 times those that fit into the day
pub record IsLeft (ds : List ℕ) (seconds_left : ℕ) (steps : ℕ) (left : ℕ) : Type 0 where
  pub today : ℕ
  pub fits : IsStepsToday ds seconds_left steps today
  pub packed : left ≡ steps + 1000 * today

-- all steps are left
abbrev pub HasAllLeft : List ℤ → ℕ → ℕ → Type 0
HasAllLeft steps seconds_left left = IsLeft (delays steps) seconds_left (length (delays steps)) left
