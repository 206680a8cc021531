-- The days to the next review, exact over permille.
use Rattle.std.specs.Prelude.{◌≡◌, ℕ, ◌+◌, ◌*◌, ◌/◌, ◌<◌, ◌≤◌, min, max, if◌then◌else◌, nat_lt}
use Rattle.ak_base.specs.declared.option_groups.Options.{Options}
use Rattle.ak_sched.specs.Counts.{clamped_to_zero}
use Rattle.ak_sched.specs.Fuzzes.{fuzzed}
use Rattle.ak_sched.specs.declared.card_states.CardState.{CardState}

-- the whole days of a product that counts parts of a day, cut at 1,000,000,000
pub record IsWhole (product : ℕ) (parts : ℕ) (days : ℕ) : Type 0 where
  pub whole : ℕ
  pub reached : parts * whole ≤ product
  pub next : product < parts * (whole + 1)
  pub cut : days ≡ min whole 1_000_000_000

-- the days that an answer sets: fuzzed, over those of the button below, and limited
abbrev pub limited : Options → ℕ → ℕ → ℕ → ℕ
limited o word below raw = min (clamped_to_zero o.max_ivl) (max (fuzzed raw word) (below + 1))

-- Hard grows the days by its own factor, and leaves them above the old ones if that is over 1000
pub record IsHard (o : Options) (word : ℕ) (s : CardState) (days : ℕ) : Type 0 where
  pub raw : ℕ
  pub whole : IsWhole (s.ivl * clamped_to_zero o.hard_factor * clamped_to_zero o.ivl_fct) 1_000_000 raw
  pub days_are : days ≡ limited o word (if nat_lt 1_000 (clamped_to_zero o.hard_factor) then s.ivl else 0) raw

-- Good grows the days, and half of those that the review was late, by the card's factor before the answer
pub record IsGood (o : Options) (word : ℕ) (s : CardState) (days : ℕ) : Type 0 where
  pub hard : ℕ
  pub is_hard : IsHard o word s hard
  pub raw : ℕ
  pub whole : IsWhole ((s.ivl + s.late / 2) * s.factor * clamped_to_zero o.ivl_fct) 1_000_000 raw
  pub days_are : days ≡ limited o word hard raw

-- Easy grows the days, and all of those that the review was late, by the card's factor and the bonus for Easy
pub record IsEasy (o : Options) (word : ℕ) (s : CardState) (days : ℕ) : Type 0 where
  pub good : ℕ
  pub is_good : IsGood o word s good
  pub raw : ℕ
  pub whole : IsWhole ((s.ivl + s.late) * s.factor * clamped_to_zero o.ease4 * clamped_to_zero o.ivl_fct) 1_000_000_000 raw
  pub days_are : days ≡ limited o word good raw

-- a factor lies between 1300 and 100,000
abbrev pub bounded_factor : ℕ → ℕ
bounded_factor factor = min 100_000 (max 1_300 factor)

-- the days of a card that was forgotten
abbrev pub lapse_ivl : Options → ℕ → ℕ
lapse_ivl o days = max 1 (max (clamped_to_zero o.min_int) (days * clamped_to_zero o.mult / 1_000))
