-- The ranges of the numbers that an answer reads and makes. The contracts of private functions alone cite them.
use Rattle.std.specs.Prelude.{◌≡◌, ℕ, ℤ, pos, negsuc, ◌<◌, ◌≤◌, ◌≤ℤ◌, List, length, get_or, IfSome, ◌⊎◌}
use Rattle.ak_base.specs.declared.cards.Card.{Card}
use Rattle.ak_base.specs.declared.reviews.Review.{Review as LogRow}
use Rattle.ak_base.specs.declared.option_groups.Options.{Options}
use Rattle.ak_sched.specs.Counts.{clamped_to_zero}
use Rattle.ak_sched.specs.declared.card_states.Kind.TheVariants.{Review}
use Rattle.ak_sched.specs.declared.card_states.CardState.{CardState}
use Rattle.ak_sched.specs.declared.card_states.Outcome.{Outcome}

-- at most 50 steps, each of at most 60,000,000 seconds
pub record AreSteps (steps : List ℤ) : Type 0 where
  pub few : length steps ≤ 50
  pub short : (i : ℕ) → i < length steps → clamped_to_zero (get_or steps i (pos 0)) ≤ 60_000_000

-- the options' numbers
pub record AreOptions (o : Options) : Type 0 where
  pub max_taken : clamped_to_zero o.max_taken ≤ 86_400
  pub new_steps : AreSteps o.new_steps
  pub grad_ivl : clamped_to_zero o.grad_ivl ≤ 100_000
  pub easy_ivl : clamped_to_zero o.easy_ivl ≤ 100_000
  pub initial_low : 1_300 ≤ clamped_to_zero o.initial_factor
  pub initial_high : clamped_to_zero o.initial_factor ≤ 100_000
  pub ease4 : clamped_to_zero o.ease4 ≤ 100_000
  pub ivl_fct : clamped_to_zero o.ivl_fct ≤ 100_000
  pub max_ivl : clamped_to_zero o.max_ivl ≤ 100_000
  pub max_sign : pos 0 ≤ℤ o.max_ivl
  pub hard_factor : clamped_to_zero o.hard_factor ≤ 100_000
  pub lapse_steps : AreSteps o.lapse_steps
  pub mult : clamped_to_zero o.mult ≤ 1_000
  pub min_int : clamped_to_zero o.min_int ≤ 100_000

-- the columns of a card that an answer reads
pub record AreColumns (c : Card) : Type 0 where
  pub left : clamped_to_zero c.left ≤ 999_999
  pub ivl : clamped_to_zero c.ivl ≤ 1_000_000
  pub factor : clamped_to_zero c.factor ≤ 100_000
  pub factor_sign : pos 0 ≤ℤ c.factor
  pub lapses : clamped_to_zero c.lapses ≤ 2_147_483_647
  pub due_low : negsuc 2_147_483_647 ≤ℤ c.due
  pub due_high : c.due ≤ℤ pos 1_099_511_627_776

-- a card before the answer
pub record IsInRange (s : CardState) : Type 0 where
  pub left : s.left ≤ 999_999
  pub ivl : s.ivl ≤ 1_000_000
  pub factor : s.factor ≤ 100_000
  pub lapses : s.lapses ≤ 2_147_483_647
  pub late : s.late ≤ 2_147_533_358

-- a card after the answer: its factor is at least 1300, or what it was for a card that was learned
pub record IsMade (s : CardState) (out : Outcome) : Type 0 where
  pub left : out.left ≤ 999_999
  pub ivl : out.ivl ≤ 1_000_000
  pub factor : out.factor ≤ 100_000
  pub lapses : out.lapses ≤ 2_147_483_647
  pub delay : IfSome out.delay (λ d. d ≤ 90_000_000)
  pub factor_low : (1_300 ≤ out.factor) ⊎ (out.factor ≡ s.factor)
  pub review_low : s.kind ≡ Review → 1_300 ≤ out.factor

-- a row of the review log, but for its ids
pub record IsLogged (r : LogRow) : Type 0 where
  pub usn : r.usn ≡ negsuc 0
  pub ease_low : pos 0 ≤ℤ r.ease
  pub ease_high : r.ease ≤ℤ pos 4
  pub ivl_low : negsuc 99_999_999 ≤ℤ r.ivl
  pub ivl_high : r.ivl ≤ℤ pos 1_000_000
  pub last_low : negsuc 99_999_999 ≤ℤ r.last_ivl
  pub last_high : r.last_ivl ≤ℤ pos 1_000_000
  pub factor_low : pos 0 ≤ℤ r.factor
  pub factor_high : r.factor ≤ℤ pos 100_000
  pub time_low : pos 0 ≤ℤ r.time
  pub time_high : r.time ≤ℤ pos 86_400_000
  pub kind_low : pos 0 ≤ℤ r.kind
  pub kind_high : r.kind ≤ℤ pos 3
