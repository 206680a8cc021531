-- What a check of the card and of the options says of the numbers that an answer reads.
use Rattle.std.proofs.Common.{◌≡◌, ℕ, ℤ, pos, negsuc, ◌≤◌, ◌≤ℤ◌, Bool, true, false, Option, Some, None, IfSome, IsOk, ◌⊎◌, inl, inr, ap, ◌∙◌, arith}
use Rattle.std.proofs.lemmas.Int.{ints}
use Rattle.std.proofs.lemmas.Bool.Decides.{nat_tests}
use Rattle.ak_base.specs.Columns.{first_fault, id_fault}
use Rattle.ak_base.specs.Cards.{card_faults, place_faults, schedule_faults, mark_faults}
use Rattle.ak_base.specs.OptionGroups.{options_faults, general_faults, new_faults, rev_faults, lapse_faults}
use Rattle.ak_base.specs.declared.cards.Card.{Card}
use Rattle.ak_base.specs.declared.option_groups.Options.{Options}
use Rattle.ak_sched.specs.Counts.{clamped_to_zero, next_count}
use Rattle.ak_sched.specs.Answers.{queue_after, due_after, kind_code, card_after}
use Rattle.ak_sched.specs.Ranges.{AreColumns, AreOptions, IsMade, IsLogged}
use Rattle.ak_sched.specs.declared.card_states.Kind.{Kind}
use Rattle.ak_sched.specs.declared.card_states.Kind.TheVariants.{Learning, Relearning, Review}
use Rattle.ak_sched.specs.declared.card_states.CardState.{CardState}
use Rattle.ak_sched.specs.declared.card_states.Outcome.{Outcome}
use Rattle.ak_base.specs.Reviews.{review_faults}
use Rattle.ak_base.specs.Days.{IsDay}
use Rattle.ak_base.specs.declared.days.Day.{Day}
use Rattle.ak_base.specs.declared.reviews.Review.{Review as LogRow}
use Rattle.ak_sched.proofs.Numbers.{clamped_le, le_clamped, pos_clamped}
use Rattle.ak_sched.proofs.Faults.{all_free, good_if_free, both_free, code_free, front_free, rest_free, code_low, code_high, steps_in_range}

pub columns_in_range : (c : Card) → IsOk (first_fault (card_faults c)) → AreColumns c
unfolding schedule_faults
columns_in_range c h =
    let kept = all_free (schedule_faults c) (front_free (schedule_faults c) (mark_faults c) (rest_free (place_faults c) _ h)) in
    record {
      left = clamped_le _ _ (code_high _ _ _ _ kept.1.1.1.1.1.1.1.0);
      ivl = clamped_le _ _ (code_high _ _ _ _ kept.1.1.1.0);
      factor = clamped_le _ _ (code_high _ _ _ _ kept.1.1.1.1.0);
      factor_sign = code_low _ _ _ _ kept.1.1.1.1.0;
      lapses = clamped_le _ _ (code_high _ _ _ _ kept.1.1.1.1.1.1.0);
      due_low = code_low _ _ _ _ kept.1.1.0;
      due_high = code_high _ _ _ _ kept.1.1.0;
    }

at_least_one : (z : ℤ) → pos 1 ≤ℤ z → pos 0 ≤ℤ z
at_least_one z h = omega (arith, ints)

pub options_in_range : (o : Options) → IsOk (first_fault (options_faults o)) → AreOptions o
unfolding general_faults new_faults rev_faults lapse_faults
options_in_range o h =
    let behind = rest_free (general_faults o) _ h in
    let last = rest_free (new_faults o) _ behind in
    let general = all_free (general_faults o) (front_free (general_faults o) _ h) in
    let new = all_free (new_faults o) (front_free (new_faults o) _ behind) in
    let reviews = all_free (rev_faults o) (front_free (rev_faults o) _ last) in
    let lapses = all_free (lapse_faults o) (rest_free (rev_faults o) _ last) in
    record {
      max_taken = clamped_le _ _ (code_high _ _ _ _ general.1.1.1.1.0);
      new_steps = steps_in_range _ _ new.0;
      grad_ivl = clamped_le _ _ (code_high _ _ _ _ new.1.0);
      easy_ivl = clamped_le _ _ (code_high _ _ _ _ new.1.1.0);
      initial_low = le_clamped _ _ (code_low _ _ _ _ new.1.1.1.0);
      initial_high = clamped_le _ _ (code_high _ _ _ _ new.1.1.1.0);
      ease4 = clamped_le _ _ (code_high _ _ _ _ reviews.1.0);
      ivl_fct = clamped_le _ _ (code_high _ _ _ _ reviews.1.1.0);
      max_ivl = clamped_le _ _ (code_high _ _ _ _ reviews.1.1.1.0);
      max_sign = at_least_one o.max_ivl (code_low _ _ _ _ reviews.1.1.1.0);
      hard_factor = clamped_le _ _ (code_high _ _ _ _ reviews.1.1.1.1.0);
      lapse_steps = steps_in_range _ _ lapses.0;
      mult = clamped_le _ _ (code_high _ _ _ _ lapses.1.0);
      min_int = clamped_le _ _ (code_high _ _ _ _ lapses.1.1.0);
    }

-- a row of the review log whose ids are in range passes the check
pub row_is_good : (r : LogRow) → IsLogged r → id_fault r.id ≡ None → id_fault r.cid ≡ None → IsOk (first_fault (review_faults r))
row_is_good r h id cid = good_if_free (review_faults r) (
  id,
  (
    cid,
    (
      code_free 2 r.usn (negsuc 0) (pos 2_147_483_647) (omega (arith, ints, h.usn)) (omega (arith, ints, h.usn)),
      (
        code_free 3 r.ease (pos 0) (pos 4) h.ease_low h.ease_high,
        (
          code_free 4 r.ivl (negsuc 999_999_999) (pos 1_000_000) (omega (arith, ints, h.ivl_low)) h.ivl_high,
          (
            code_free 5 r.last_ivl (negsuc 999_999_999) (pos 1_000_000) (omega (arith, ints, h.last_low)) h.last_high,
            (
              code_free 6 r.factor (pos 0) (pos 100_000) h.factor_low h.factor_high,
              (
                code_free 7 r.time (pos 0) (pos 4_294_967_295) h.time_low (omega (arith, ints, h.time_high)),
                (
                  code_free 8 r.kind (pos 0) (pos 3) h.kind_low h.kind_high,
                  tt,
                ),
              ),
            ),
          ),
        ),
      ),
    ),
  ),
)

pub kind_low : (k : Kind) → pos 0 ≤ℤ kind_code k
kind_low Learning = omega (arith, ints)
kind_low Review = omega (arith, ints)
kind_low Relearning = omega (arith, ints)

pub kind_high : (k : Kind) → kind_code k ≤ℤ pos 3
kind_high Learning = omega (arith, ints)
kind_high Review = omega (arith, ints)
kind_high Relearning = omega (arith, ints)

pub queue_low : (day : Day) (suspended : Bool) (delay : Option ℕ) → negsuc 2 ≤ℤ queue_after day suspended delay
queue_low day suspended (Some delay) = grind (arith, ints, nat_tests)
queue_low day true None = omega (arith, ints)
queue_low day false None = omega (arith, ints)

pub queue_high : (day : Day) (suspended : Bool) (delay : Option ℕ) → queue_after day suspended delay ≤ℤ pos 3
queue_high day suspended (Some delay) = grind (arith, ints, nat_tests)
queue_high day true None = omega (arith, ints)
queue_high day false None = omega (arith, ints)

pub due_low : (day : Day) (word days : ℕ) (delay : Option ℕ) → IsDay day → negsuc 2_147_483_647 ≤ℤ due_after day word days delay
due_low day word days (Some delay) h = grind (arith, ints, nat_tests)
due_low day word days None h = omega (arith, ints)

pub due_high : (day : Day) (word days : ℕ) (delay : Option ℕ) → IsDay day → days ≤ 1_000_000 → IfSome delay (λ d. d ≤ 90_000_000) → due_after day word days delay ≤ℤ pos 1_099_511_627_776
due_high day word days (Some delay) h few short =
    let now = clamped_le day.now 4_294_967_294 (omega (arith, ints)) in
    let cutoff = clamped_le day.cutoff 4_295_053_694 (omega (arith, ints)) in
    grind (arith, ints, nat_tests)
due_high day word days None h few short = omega (arith, ints)

-- the card that an answer makes passes the check
pub card_is_good : (c : Card) (day : Day) (word : ℕ) (s : CardState) (out : Outcome) → IsOk (first_fault (card_faults c)) → IsDay day → IsMade s out → IsOk (first_fault (card_faults (card_after c day word out)))
unfolding place_faults schedule_faults mark_faults
card_is_good c day word s out h today made =
    let new : Card = card_after c day word out in
    let place = front_free (place_faults c) _ h in
    let marks = rest_free (schedule_faults c) _ (rest_free (place_faults c) _ h) in
    both_free (place_faults new) _ place (both_free (schedule_faults new) (mark_faults new) (good_if_free (schedule_faults new) (
      code_free 6 (kind_code out.kind) (pos 0) (pos 3) (kind_low out.kind) (kind_high out.kind),
      (
        code_free 7 (queue_after day out.suspended out.delay) (negsuc 2) (pos 3) (queue_low day out.suspended out.delay) (queue_high day out.suspended out.delay),
        (
          code_free 8 (due_after day word out.ivl out.delay) (negsuc 2_147_483_647) (pos 1_099_511_627_776) (due_low day word out.ivl out.delay today) (due_high day word out.ivl out.delay today made.ivl made.delay),
          (
            code_free 9 (pos out.ivl) (pos 0) (pos 1_000_000) (omega (arith, ints)) (omega (arith, ints, made.ivl)),
            (
              code_free 10 (pos out.factor) (pos 0) (pos 100_000) (omega (arith, ints)) (omega (arith, ints, made.factor)),
              (
                code_free 11 (pos (next_count (clamped_to_zero c.reps))) (pos 0) (pos 2_147_483_647) (omega (arith, ints)) (omega (arith, ints)),
                (
                  code_free 12 (pos out.lapses) (pos 0) (pos 2_147_483_647) (omega (arith, ints)) (omega (arith, ints, made.lapses)),
                  (
                    code_free 13 (pos out.left) (pos 0) (pos 999_999) (omega (arith, ints)) (omega (arith, ints, made.left)),
                    tt,
                  ),
                ),
              ),
            ),
          ),
        ),
      ),
    )) marks)

pub card_id_is_good : (c : Card) → IsOk (first_fault (card_faults c)) → id_fault c.id ≡ None
unfolding place_faults
card_id_is_good c h = (all_free (place_faults c) (front_free (place_faults c) _ h)).0

-- a factor is lifted to 1300, or stays
pub factor_kept : (c : Card) (s : CardState) (out : Outcome) → AreColumns c → s.factor ≡ clamped_to_zero c.factor → (1_300 ≤ out.factor) ⊎ (out.factor ≡ s.factor) → (pos 1_300 ≤ℤ pos out.factor) ⊎ (pos out.factor ≡ c.factor)
factor_kept c s out columns same (inl low) = inl (omega (arith, ints))
factor_kept c s out columns same (inr kept) = inr (ap pos (kept ∙ same) ∙ pos_clamped c.factor columns.factor_sign)
