-- What an early answer makes passes its check.
use Rattle.std.specs.Prelude.{◌≡◌, ◌≤◌, ◌≤ℤ◌, ◌+ℤ◌, ◌*◌, ℕ, ℤ, pos, negsuc, min, max, List, None, ◌++◌}
use Rattle.std.proofs.Common.{refl, sym, ap, subst, ◌∙◌, arith, IsOk}
use Rattle.std.proofs.lemmas.Int.{ints}
use Rattle.std.specs.Int.{int_max, int_min}
use Rattle.ak_away_answers.specs.EarlyAnswers.{early_days, early_factor, early_ivl, factor_change, review_early}
use Rattle.ak_away_answers.specs.EarlyEdits.{AreEarlyColumns, card_made}
use Rattle.ak_away_answers.specs.declared.early_answers.Asked.{Asked}
use Rattle.ak_base.specs.Cards.{IsCheckedCard, card_faults, mark_faults, place_faults, schedule_faults}
use Rattle.ak_base.specs.Columns.{first_fault, id_fault}
use Rattle.ak_base.specs.Days.{IsDay}
use Rattle.ak_base.specs.OptionGroups.{IsCheckedOptions, options_faults}
use Rattle.ak_base.specs.Reviews.{IsCheckedReview, review_faults}
use Rattle.ak_base.specs.declared.cards.Card.{Card}
use Rattle.ak_base.specs.declared.days.Day.{Day}
use Rattle.ak_base.specs.declared.option_groups.Options.{Options}
use Rattle.ak_base.specs.declared.reviews.Review.{Review}
use Rattle.ak_sched.proofs.Checks.{card_id_is_good, options_in_range}
use Rattle.ak_sched.proofs.Faults.{all_free, both_free, checked_ok, code_free, code_high, code_low, front_free, good_if_free, ok_checked, rest_free}
use Rattle.ak_sched.proofs.Numbers.{clamped_le}
use Rattle.ak_sched.specs.Counts.{clamped_to_zero, next_count}
use Rattle.ak_sched.specs.Ranges.{AreOptions}
use Rattle.ak_study.specs.Answers.{IsButton}
use Rattle.ak_study.specs.declared.answers.CardAnswer.{CardAnswer}

-- what it reads of options and of a card that pass their checks
pub options_read : (o : Options) → IsCheckedOptions o → AreOptions o
options_read o checked = options_in_range o (checked_ok (options_faults o) checked)

pub own_id : (c : Card) → IsCheckedCard c → id_fault c.id ≡ None
own_id c checked = card_id_is_good c (checked_ok (card_faults c) checked)

-- the columns that it reads, of a card that passes its check
pub early_columns : (c : Card) → IsCheckedCard c → AreEarlyColumns c
unfolding schedule_faults mark_faults
early_columns c checked =
    let h : IsOk (first_fault (card_faults c)) = checked_ok (card_faults c) checked in
    let rest = rest_free (place_faults c) (schedule_faults c ++ mark_faults c) h in
    let kept = all_free (schedule_faults c) (front_free (schedule_faults c) (mark_faults c) rest) in
    let marks = all_free (mark_faults c) (rest_free (schedule_faults c) (mark_faults c) rest) in
    record {
      ivl_low = code_low _ _ _ _ kept.1.1.1.0;
      ivl_high = code_high _ _ _ _ kept.1.1.1.0;
      ivl = clamped_le _ _ (code_high _ _ _ _ kept.1.1.1.0);
      factor_low = code_low _ _ _ _ kept.1.1.1.1.0;
      factor_high = code_high _ _ _ _ kept.1.1.1.1.0;
      factor = clamped_le _ _ (code_high _ _ _ _ kept.1.1.1.1.0);
      odue_low = code_low _ _ _ _ marks.0;
      odue_high = code_high _ _ _ _ marks.0;
    }

-- ---- numbers that are in a range are in a wider one
not_below : (n : ℕ) → pos 0 ≤ℤ pos n
not_below n = omega (arith, ints)

not_far_below : (z : ℤ) → pos 0 ≤ℤ z → negsuc 999_999_999 ≤ℤ z
not_far_below z low = omega (arith, ints)

ivl_fits : (n : ℕ) → n ≤ 100_000 → pos n ≤ℤ pos 1_000_000
ivl_fits n high = omega (arith, ints)

due_low : (number : ℤ) (n : ℕ) → negsuc 49_710 ≤ℤ number → negsuc 2_147_483_647 ≤ℤ (number +ℤ pos n)
due_low number n low = omega (arith, ints)

due_high : (number : ℤ) (n : ℕ) → number ≤ℤ pos 49_710 → n ≤ 100_000 → (number +ℤ pos n) ≤ℤ pos 1_099_511_627_776
due_high number n high few = omega (arith, ints)

reps_high : (n : ℕ) → pos (next_count n) ≤ℤ pos 2_147_483_647
reps_high n = omega (arith, ints)

button_fits : (n : ℕ) → n ≤ 4 → pos n ≤ℤ pos 4
button_fits n high = omega (arith, ints)

time_fits : (n : ℕ) → n ≤ 86_400_000 → pos n ≤ℤ pos 4_294_967_295
time_fits n high = omega (arith, ints)

pub ivl_high : (o : Options) (day : Day) (button : ℕ) (card : Card) → AreOptions o → early_ivl o day button card ≤ 100_000
ivl_high o day button card are =
    let most = are.max_ivl in
    at_most (clamped_to_zero o.max_ivl) (max 1 (early_days o day button card)) most
  where
    at_most : (one other : ℕ) → one ≤ 100_000 → min one other ≤ 100_000
    at_most one other few = omega (arith, few)

factor_low : (button : ℕ) (card : Card) → pos 0 ≤ℤ early_factor button card
factor_low button card = factor_between (card.factor +ℤ factor_change button)
  where
    factor_between : (n : ℤ) → pos 0 ≤ℤ int_min (int_max n (pos 1_300)) (pos 100_000)
    factor_between n = grind (arith, ints)

factor_high : (button : ℕ) (card : Card) → early_factor button card ≤ℤ pos 100_000
factor_high button card = factor_under (card.factor +ℤ factor_change button)
  where
    factor_under : (n : ℤ) → int_min (int_max n (pos 1_300)) (pos 100_000) ≤ℤ pos 100_000
    factor_under n = grind (arith, ints)

-- the card is made of its new columns
pub card_is_made : (o : Options) (asked : Asked) (button : ℕ) (home : Card) (due ivl factor reps : ℤ) → due ≡ asked.day.number +ℤ pos (early_ivl o asked.day button asked.card) → ivl ≡ pos (early_ivl o asked.day button asked.card)
    → factor ≡ early_factor button asked.card → reps ≡ pos (next_count (clamped_to_zero asked.card.reps)) → record home { due = due; ivl = ivl; factor = factor; reps = reps } ≡ card_made o asked button home
card_is_made o asked button home due ivl factor reps is_due is_ivl is_factor is_reps =
    let after : Card = card_made o asked button home in
    ap (λ (n : ℤ). record home { due = n; ivl = ivl; factor = factor; reps = reps }) is_due
    ∙ ap (λ (n : ℤ). record home { due = after.due; ivl = n; factor = factor; reps = reps }) is_ivl
    ∙ ap (λ (n : ℤ). record home { due = after.due; ivl = after.ivl; factor = n; reps = reps }) is_factor
    ∙ ap (λ (n : ℤ). record home { due = after.due; ivl = after.ivl; factor = after.factor; reps = n }) is_reps

-- the card
pub card_passes : (o : Options) (asked : Asked) (button : ℕ) (home : Card) → AreOptions o → IsDay asked.day → IsCheckedCard home → IsCheckedCard (card_made o asked button home)
unfolding place_faults schedule_faults mark_faults
card_passes o asked button home are day checked =
    let new : Card = card_made o asked button home in
    let h : IsOk (first_fault (card_faults home)) = checked_ok (card_faults home) checked in
    let place = front_free (place_faults home) (schedule_faults home ++ mark_faults home) h in
    let rest = rest_free (place_faults home) (schedule_faults home ++ mark_faults home) h in
    let kept = all_free (schedule_faults home) (front_free (schedule_faults home) (mark_faults home) rest) in
    let marks = rest_free (schedule_faults home) (mark_faults home) rest in
    let high : early_ivl o asked.day button asked.card ≤ 100_000 = ivl_high o asked.day button asked.card are in
    ok_checked (card_faults new) (both_free (place_faults new) (schedule_faults new ++ mark_faults new) place (both_free (schedule_faults new) (mark_faults new) (good_if_free (schedule_faults new) (
      kept.0,
      (
        kept.1.0,
        (
          code_free 8 (asked.day.number +ℤ pos (early_ivl o asked.day button asked.card)) (negsuc 2_147_483_647) (pos 1_099_511_627_776) (due_low asked.day.number (early_ivl o asked.day button asked.card) day.number_low) (due_high asked.day.number (early_ivl o asked.day button asked.card) day.number_high high),
          (
            code_free 9 (pos (early_ivl o asked.day button asked.card)) (pos 0) (pos 1_000_000) (not_below (early_ivl o asked.day button asked.card)) (ivl_fits (early_ivl o asked.day button asked.card) high),
            (
              code_free 10 (early_factor button asked.card) (pos 0) (pos 100_000) (factor_low button asked.card) (factor_high button asked.card),
              (
                code_free 11 (pos (next_count (clamped_to_zero asked.card.reps))) (pos 0) (pos 2_147_483_647) (not_below (next_count (clamped_to_zero asked.card.reps))) (reps_high (clamped_to_zero asked.card.reps)),
                kept.1.1.1.1.1.1,
              ),
            ),
          ),
        ),
      ),
    )) marks))

time_high : (taken : ℕ) (o : Options) → AreOptions o → min taken (1_000 * clamped_to_zero o.max_taken) ≤ 86_400_000
time_high taken o are = short_time taken (clamped_to_zero o.max_taken) are.max_taken
  where
    short_time : (taken most : ℕ) → most ≤ 86_400 → min taken (1_000 * most) ≤ 86_400_000
    short_time taken most few = omega (arith, few)

-- its review
pub review_passes : (id : ℤ) (given : CardAnswer) (o : Options) (day : Day) (card : Card) → AreOptions o → AreEarlyColumns card → IsButton given.button → id_fault id ≡ None → id_fault card.id ≡ None
    → IsCheckedReview (review_early id given o day card)
review_passes id given o day card are columns button own_id card_id =
    let high : early_ivl o day given.button card ≤ 100_000 = ivl_high o day given.button card are in
    let time : min given.taken (1_000 * clamped_to_zero o.max_taken) ≤ 86_400_000 = time_high given.taken o are in
    let review : Review = review_early id given o day card in
    ok_checked (review_faults review) (good_if_free (review_faults review) (
      own_id,
      (
        card_id,
        (
          code_free 2 (negsuc 0) (negsuc 0) (pos 2_147_483_647) (omega (arith, ints)) (omega (arith, ints)),
          (
            code_free 3 (pos given.button) (pos 0) (pos 4) (not_below given.button) (button_fits given.button button.high),
            (
              code_free 4 (pos (early_ivl o day given.button card)) (negsuc 999_999_999) (pos 1_000_000) (not_far_below (pos (early_ivl o day given.button card)) (not_below (early_ivl o day given.button card))) (ivl_fits (early_ivl o day given.button card) high),
              (
                code_free 5 card.ivl (negsuc 999_999_999) (pos 1_000_000) (not_far_below card.ivl columns.ivl_low) columns.ivl_high,
                (
                  code_free 6 (early_factor given.button card) (pos 0) (pos 100_000) (factor_low given.button card) (factor_high given.button card),
                  (
                    code_free 7 (pos (min given.taken (1_000 * clamped_to_zero o.max_taken))) (pos 0) (pos 4_294_967_295) (not_below (min given.taken (1_000 * clamped_to_zero o.max_taken))) (time_fits (min given.taken (1_000 * clamped_to_zero o.max_taken)) time),
                    (code_free 8 (pos 3) (pos 0) (pos 3) (omega (arith, ints)) (omega (arith, ints)), tt),
                  ),
                ),
              ),
            ),
          ),
        ),
      ),
    ))
