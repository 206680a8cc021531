-- An early answer: a review card is answered in a filtered deck before its day has come at home.
use Rattle.std.specs.Prelude.{◌≡◌, ℕ, ℤ, pos, negsuc, ◌*◌, ◌/◌, ◌+◌, ◌+ℤ◌, ◌-ℤ◌, min, max, Bool, ◌&&◌, int_lt, nat_eq, nat_le, if◌then◌else◌, List, Some}
use Rattle.std.specs.Int.{int_max, int_min}
use Rattle.std.specs.Ordering.{int_eq}
use Rattle.ak_base.specs.Days.{IsDayOf}
use Rattle.ak_base.specs.declared.cards.Card.{Card}
use Rattle.ak_base.specs.declared.days.Day.{Day}
use Rattle.ak_base.specs.declared.names.Table.TheVariants as tables
use Rattle.ak_base.specs.declared.option_groups.Options.{Options}
use Rattle.ak_base.specs.declared.reviews.Review.{Review}
use Rattle.ak_base.specs.declared.rows.Row.TheVariants as rows
use Rattle.ak_edit.specs.Ends.{RefusesStamp}
use Rattle.ak_edit.specs.Refusals.{OrElse, Refusal}
use Rattle.ak_edit.specs.declared.desk_faults.DeskFault.{DeskFault}
use Rattle.ak_edit_calls.specs.NewNames.{first_name}
use Rattle.ak_filtered.specs.ClearedEdits.{IsCleared}
use Rattle.ak_filtered.specs.HomeDecks.{DeckFlags, filtered_at, gone_home}
use Rattle.ak_keep.specs.Collections.{Collection}
use Rattle.ak_keep.specs.FreeNames.{IsFirstFree, is_used}
use Rattle.ak_keep.specs.Keepers.{Keeping}
use Rattle.ak_keep.specs.Lookups.{card_at}
use Rattle.ak_merge.specs.EditBuilding.{unedited, with_row}
use Rattle.ak_merge.specs.Edits.{Edit}
use Rattle.ak_merge.specs.Holdings.{name_in, row_under}
use Rattle.ak_sched.specs.Counts.{clamped_to_zero, next_count}
use Rattle.ak_study.specs.Answers.{AreOptionsFor, RefusesReview}
use Rattle.ak_study.specs.declared.answers.CardAnswer.{CardAnswer}
use Rattle.ak_undo.specs.declared.steps.Step.{Step}

-- whether the answer of a card that is away is early: the card is a review, its day at home is later than today, and the button is Hard, Good or
-- Easy
abbrev pub is_early : Day → ℕ → Card → Bool
is_early day button card = int_eq card.kind (pos 2) && int_lt day.number card.odue && nat_le 2 button

-- ---- the interval, counted in thousandths of a day
-- the days of the interval that have passed; none if it has not begun
abbrev pub days_passed : Day → Card → ℕ
days_passed day card = clamped_to_zero (card.ivl -ℤ (card.odue -ℤ day.number))

-- Hard: the days passed grow, to at least half of what the whole interval would grow to
abbrev pub hard_thousandths : Options → Day → Card → ℕ
hard_thousandths o day card =
    max (days_passed day card * clamped_to_zero o.hard_factor) (max 1_000 (clamped_to_zero card.ivl * clamped_to_zero o.hard_factor / 2))

-- Good: the days passed grow by the card's factor, to at least the interval
abbrev pub good_thousandths : Day → Card → ℕ
good_thousandths day card = max (days_passed day card * clamped_to_zero card.factor) (max 1_000 (clamped_to_zero card.ivl * 1_000))

-- Easy has half of its bonus
abbrev pub half_bonus : Options → ℕ
half_bonus o = (clamped_to_zero o.ease4 + 1_000) / 2

-- the whole days before limits
abbrev pub early_days : Options → Day → ℕ → Card → ℕ
early_days o day button card =
    if nat_eq button 2 then hard_thousandths o day card * clamped_to_zero o.ivl_fct / 1_000_000
    else if nat_eq button 3 then good_thousandths day card * clamped_to_zero o.ivl_fct / 1_000_000
    else good_thousandths day card * half_bonus o * clamped_to_zero o.ivl_fct / 1_000_000_000

-- the new interval: at least a day, and at most the options' limit
abbrev pub early_ivl : Options → Day → ℕ → Card → ℕ
early_ivl o day button card = min (clamped_to_zero o.max_ivl) (max 1 (early_days o day button card))

-- ---- the card and its review
-- by how much the factor changes
abbrev pub factor_change : ℕ → ℤ
factor_change button = if nat_eq button 2 then negsuc 149 else if nat_eq button 3 then pos 0 else pos 150

-- the new factor, within its bounds
abbrev pub early_factor : ℕ → Card → ℤ
early_factor button card = int_min (int_max (card.factor +ℤ factor_change button) (pos 1_300)) (pos 100_000)

-- the card after the answer: at home, with the new interval, factor and day; it counts one more answer, up to the last count
abbrev pub card_early : Options → Day → ℕ → DeckFlags → Card → Card
card_early o day button flags card = record (gone_home flags card) {
  due = day.number +ℤ pos (early_ivl o day button card);
  ivl = pos (early_ivl o day button card);
  factor = early_factor button card;
  reps = pos (next_count (clamped_to_zero card.reps));
}

-- its row of the review log, with this id; the time of the answer counts up to the options' limit
abbrev pub review_early : ℤ → CardAnswer → Options → Day → Card → Review
review_early id given o day card = record {
  id = id;
  cid = card.id;
  usn = negsuc 0;
  ease = pos given.button;
  ivl = pos (early_ivl o day given.button card);
  last_ivl = card.ivl;
  factor = early_factor given.button card;
  time = pos (min given.taken (1_000 * clamped_to_zero o.max_taken));
  kind = pos 3;
}

-- what an early answer at this moment puts: its options are those that the card has at home
pub record IsEarly (at : ℤ) (given : CardAnswer) (day : Day) (c : Collection) (made : Card) (review : Review) : Type 0 where
  pub was : Card
  pub is_held : card_at c.rows given.card ≡ Some was
  pub options : Options
  pub are_options : AreOptionsFor c.rows (gone_home (filtered_at c.rows) was) options
  pub free : IsFirstFree (is_used (row_under c)) (first_name tables.Review at) (Some (name_in tables.Review review.id))
  pub card : made ≡ card_early options day given.button (filtered_at c.rows) was
  pub is_review : review ≡ review_early review.id given options day was

-- the edit that puts them: no counts rise, no siblings are buried, and no day is started
abbrev pub early_edit : Card → Review → Collection → Edit
early_edit made review c = with_row (rows.Review review) (with_row (rows.Card made) (unedited c))

-- at this moment the card was answered early
pub record IsEarlyAnswered (at : ℤ) (given : CardAnswer) (day : Day) (c : Collection) (before now : Keeping) (left : List Step) (made : Card) : Type 0 where
  pub review : Review
  pub is_early : IsEarly at given day c made review
  -- no stamp and no moment ends
  pub passes : (fault : DeskFault) → RefusesStamp at c (early_edit made review c) fault → ⊥
  pub cleared : IsCleared at c (early_edit made review c) before now left

-- ---- refusals
-- a stamp or the moment ends
abbrev pub RefusesEarlyEnd : ℤ → CardAnswer → Day → Collection → Refusal
RefusesEarlyEnd at given day c fault =
    (made : Card) × (review : Review) × IsEarly at given day c made review × RefusesStamp at c (early_edit made review c) fault

-- the tests of an early answer: there is no id for its review, or one of these
abbrev pub RefusesEarly : ℤ → CardAnswer → Day → Collection → Refusal
RefusesEarly at given day c = OrElse (RefusesReview at c) (RefusesEarlyEnd at given day c)
