-- What an answer does: a table by the kind of the card and the button.
use Rattle.std.specs.Prelude.{◌≡◌, ℕ, ℤ, pos, ◌+◌, ◌-◌, ◌%◌, ◌<◌, ◌≤◌, ◌-ℤ◌, min, Bool, true, false, IsTrue, List, [], length, Option, Some, None, ◌↔◌, ◌≢◌}
use Rattle.ak_base.specs.declared.option_groups.Options.{Options}
use Rattle.ak_base.specs.declared.days.Day.{Day}
use Rattle.ak_sched.specs.Counts.{clamped_to_zero, next_count}
use Rattle.ak_sched.specs.Fuzzes.{fuzzed}
use Rattle.ak_sched.specs.Steps.{delays, delay_at, hard_delay, IsLeft}
use Rattle.ak_sched.specs.Intervals.{IsHard, IsGood, IsEasy, bounded_factor, lapse_ivl}
use Rattle.ak_sched.specs.Leeches.{IsLeech}
use Rattle.ak_sched.specs.declared.card_states.Kind.{Kind}
use Rattle.ak_sched.specs.declared.card_states.Kind.TheVariants.{Learning, Relearning, Review}
use Rattle.ak_sched.specs.declared.card_states.Button.{Button}
use Rattle.ak_sched.specs.declared.card_states.Button.TheVariants.{Again, Hard, Good, Easy}
use Rattle.ak_sched.specs.declared.card_states.CardState.{CardState}
use Rattle.ak_sched.specs.declared.card_states.Outcome.{Outcome}

-- the seconds that are left of the day
abbrev pub seconds_left_today : Day → ℕ
seconds_left_today day = clamped_to_zero (day.cutoff -ℤ day.now)

-- the steps that a card of this kind takes
abbrev pub steps_of : Options → Kind → List ℤ
steps_of o Learning = o.new_steps
steps_of o Relearning = o.lapse_steps
steps_of o Review = o.lapse_steps

-- the steps that are left
abbrev pub steps_left : CardState → ℕ
steps_left s = s.left % 1_000

-- the card waits for a step
abbrev pub on_step : CardState → ℕ → ℕ → ℕ → Outcome
on_step s left days delay = record {
  kind = s.kind;
  left = left;
  ivl = days;
  factor = s.factor;
  lapses = s.lapses;
  leech = false;
  suspended = false;
  delay = Some delay;
}

-- the card has no steps any more
abbrev pub graduated : CardState → ℕ → ℕ → Outcome
graduated s days factor = record {
  kind = Review;
  left = 0;
  ivl = days;
  factor = factor;
  lapses = s.lapses;
  leech = false;
  suspended = false;
  delay = None;
}

-- the card was known: its days and its factor change
abbrev pub reviewed : CardState → ℕ → ℕ → Outcome
reviewed s days factor = record {
  kind = Review;
  left = s.left;
  ivl = days;
  factor = factor;
  lapses = s.lapses;
  leech = false;
  suspended = false;
  delay = None;
}

-- all steps are left
pub record IsRestart (ds : List ℕ) (seconds : ℕ) (s : CardState) (days : ℕ) (out : Outcome) : Type 0 where
  pub left : ℕ
  pub all : IsLeft ds seconds (length ds) left
  pub is : out ≡ on_step s left days (delay_at ds (length ds))

-- one step less is left
pub record IsStep (ds : List ℕ) (seconds : ℕ) (s : CardState) (out : Outcome) : Type 0 where
  pub left : ℕ
  pub less : IsLeft ds seconds (steps_left s - 1) left
  pub is : out ≡ on_step s left s.ivl (delay_at ds (steps_left s - 1))

-- a card that was forgotten: one more lapse, a lower factor, fewer days
abbrev pub forgotten : Options → CardState → Kind → ℕ → Bool → Bool → Option ℕ → Outcome
forgotten o s kind left leech suspended delay = record {
  kind = kind;
  left = left;
  ivl = lapse_ivl o s.ivl;
  factor = bounded_factor (s.factor - 200);
  lapses = next_count s.lapses;
  leech = leech;
  suspended = suspended;
  delay = delay;
}

-- it is suspended if it is a leech and the options say so; else it is learned again, if there are steps
pub record IsLapse (o : Options) (day : Day) (s : CardState) (out : Outcome) : Type 0 where
  pub leech : IsTrue out.leech ↔ IsLeech (next_count s.lapses) (clamped_to_zero o.leech_fails)
  pub suspended : IsTrue out.suspended ↔ (IsTrue out.leech × (o.leech_action ≡ pos 0))
  pub when_suspended : out.suspended ≡ true → out ≡ forgotten o s Review 0 out.leech true None
  pub without_steps : out.suspended ≡ false → o.lapse_steps ≡ [] → out ≡ forgotten o s Review 0 out.leech false None
  pub with_steps :
      out.suspended ≡ false → o.lapse_steps ≢ [] →
      IsLeft (delays o.lapse_steps) (seconds_left_today day) (length (delays o.lapse_steps)) out.left
      × (out ≡ forgotten o s Relearning out.left out.leech false (Some (delay_at (delays o.lapse_steps) (length (delays o.lapse_steps)))))

-- a review with Hard, Good and Easy: the days by the button, with the factor before the answer, and then the factor
pub record IsReviewed (s : CardState) (IsDays : ℕ → Type 0) (factor : ℕ) (out : Outcome) : Type 0 where
  pub days : ℕ
  pub are : IsDays days
  pub is : out ≡ reviewed s days factor

-- what an answer makes of a card in this state
abbrev pub IsTransition : Kind → Button → Options → Day → ℕ → CardState → Outcome → Type 0
IsTransition Learning Again o day word s out = IsRestart (delays o.new_steps) (seconds_left_today day) s s.ivl out
IsTransition Relearning Again o day word s out = IsRestart (delays o.lapse_steps) (seconds_left_today day) s (lapse_ivl o s.ivl) out
IsTransition Learning Hard o day word s out = out ≡ on_step s s.left s.ivl (hard_delay (delays o.new_steps) (steps_left s))
IsTransition Relearning Hard o day word s out = out ≡ on_step s s.left s.ivl (hard_delay (delays o.lapse_steps) (steps_left s))
IsTransition Learning Good o day word s out =
    (1 < steps_left s → IsStep (delays o.new_steps) (seconds_left_today day) s out)
    × (steps_left s ≤ 1 → out ≡ graduated s (fuzzed (clamped_to_zero o.grad_ivl) word) (clamped_to_zero o.initial_factor))
IsTransition Relearning Good o day word s out =
    (1 < steps_left s → IsStep (delays o.lapse_steps) (seconds_left_today day) s out)
    × (steps_left s ≤ 1 → out ≡ graduated s s.ivl s.factor)
IsTransition Learning Easy o day word s out = out ≡ graduated s (fuzzed (clamped_to_zero o.easy_ivl) word) (clamped_to_zero o.initial_factor)
IsTransition Relearning Easy o day word s out = out ≡ graduated s (min 1_000_000 (s.ivl + 1)) s.factor
IsTransition Review Again o day word s out = IsLapse o day s out
IsTransition Review Hard o day word s out = IsReviewed s (IsHard o word s) (bounded_factor (s.factor - 150)) out
IsTransition Review Good o day word s out = IsReviewed s (IsGood o word s) (bounded_factor s.factor) out
IsTransition Review Easy o day word s out = IsReviewed s (IsEasy o word s) (bounded_factor (s.factor + 150)) out
