-- The cards that are made of a seed, and their reviews, are in their ranges.
use Rattle.std.proofs.Common.{◌≡◌, ℕ, ℤ, pos, negsuc, ◌+◌, ◌*◌, ◌/◌, ◌%◌, ◌<◌, ◌≤◌, ◌≤ℤ◌, ◌==◌, ◌||◌, Bool, true, false, if◌then◌else◌, int_lt, List, [], ◌∷◌, ◌++◌, Option, Some, None, Ok, refl, ◌∙◌, arith}
use Rattle.std.specs.Prelude.{neg_ℤ}
use Rattle.std.proofs.lemmas.Int.{ints}
use Rattle.std.proofs.lemmas.Nat.{mod_below}
use Rattle.std.specs.List.{AllByRecursion}
use Rattle.ak_base.proofs.FirstFaults.{fault_behind}
use Rattle.ak_base.specs.Cards.{IsCheckedCard, mark_faults, place_faults, schedule_faults}
use Rattle.ak_base.specs.Columns.{code_fault, first_fault, id_fault, id_or_zero_fault, long_fault, stamp_fault}
use Rattle.ak_base.specs.Limits.{last_id}
use Rattle.ak_base.specs.Reviews.{IsCheckedReview, review_faults}
use Rattle.ak_base.specs.declared.errors.RowFault.{RowFault}
use Rattle.ak_made_collections.specs.MadeCards.{factor_of, ivl_of, made_card, made_review}
use Rattle.ak_made_collections.specs.RowIds.{made_id, made_review_id, made_stamp}
use Rattle.ak_made_collections.specs.RowNumbers.{note_of_card, place_of_card, words_before_card, words_before_review}
use Rattle.ak_made_collections.specs.SeedWords.{nth_word}

-- ---- columns in their ranges
pub id_free : (id : ℕ) → 0 < id → id ≤ 9_007_199_254_740_991 → id_fault (pos id) ≡ None
unfolding id_fault
id_free id low high =
    let not_less : int_lt (pos id) (pos 1) ≡ false = grind (arith, ints, low) in
    let not_more : int_lt last_id (pos id) ≡ false = grind (arith, ints, high) in
    rw (not_less, not_more) refl

pub id_passes : (number : ℕ) → number < 160_000 → id_fault (made_id number) ≡ None
id_passes number few = id_free (1_500_000_000_000 + number) (omega arith) (omega (arith, few))

review_id_passes : (number : ℕ) → number < 160_000 → id_fault (made_review_id number) ≡ None
review_id_passes number few = id_free (1_600_000_000_000 + number) (omega arith) (omega (arith, few))

pub code_free : (column : ℕ) (value least most : ℤ) → least ≤ℤ value → value ≤ℤ most → code_fault column value least most ≡ None
unfolding code_fault
code_free column value least most low high =
    let not_less : int_lt value least ≡ false = grind (arith, ints, low) in
    let not_more : int_lt most value ≡ false = grind (arith, ints, high) in
    rw (not_less, not_more) refl

pub at_most : (column n least most : ℕ) → least ≤ n → n ≤ most → code_fault column (pos n) (pos least) (pos most) ≡ None
at_most column n least most low high = code_free column (pos n) (pos least) (pos most) (omega (arith, ints, low)) (omega (arith, ints, high))

pub from_below : (column n least most : ℕ) → n ≤ most → code_fault column (pos n) (negsuc least) (pos most) ≡ None
from_below column n least most high = code_free column (pos n) (negsuc least) (pos most) (omega (arith, ints)) (omega (arith, ints, high))

back_passes : (days : ℕ) → days < 10 → code_fault 8 (neg_ℤ (pos days)) (negsuc 2_147_483_647) (pos 1_099_511_627_776) ≡ None
back_passes days few = code_free 8 (neg_ℤ (pos days)) (negsuc 2_147_483_647) (pos 1_099_511_627_776) (omega (arith, ints, few)) (omega (arith, ints, few))

ivl_passes : (column seed card : ℕ) → code_fault column (ivl_of seed card) (pos 0) (pos 1_000_000) ≡ None
ivl_passes column seed card = at_most column (1 + nth_word seed (words_before_card card) % 100) 0 1_000_000 (omega arith)
    (omega (arith, mod_below (nth_word seed (words_before_card card)) 100 (omega arith)))

ivl_passes_past : (seed card : ℕ) → code_fault 4 (ivl_of seed card) (negsuc 999_999_999) (pos 1_000_000) ≡ None
ivl_passes_past seed card = from_below 4 (1 + nth_word seed (words_before_card card) % 100) 999_999_999 1_000_000
    (omega (arith, mod_below (nth_word seed (words_before_card card)) 100 (omega arith)))

factor_passes : (column seed card : ℕ) → code_fault column (factor_of seed card) (pos 0) (pos 100_000) ≡ None
factor_passes column seed card = at_most column (1_300 + 50 * (nth_word seed (words_before_card card + 2) % 25)) 0 100_000 (omega arith)
    (omega (arith, mod_below (nth_word seed (words_before_card card + 2)) 25 (omega arith)))

pub stamp_passes : stamp_fault made_stamp ≡ None
unfolding stamp_fault
stamp_passes = refl

few_places : (card : ℕ) → place_of_card card ≤ 499
few_places card = by ((card % 5 == 2) || (card % 5 == 4))
  where
    by : (second : Bool) → (if second then 1 else 0) ≤ 499
    by true = omega arith
    by false = omega arith

few_notes : (card : ℕ) → card < 40_000 → note_of_card card < 160_000
few_notes card few = omega (arith, few)

-- ---- rows
abbrev AreFaultless : List (Option RowFault) → Type 0
AreFaultless = AllByRecursion (λ (fault : Option RowFault). fault ≡ None)

pub of_faultless : (faults : List (Option RowFault)) → AreFaultless faults → first_fault faults ≡ Ok tt
of_faultless [] all = refl
of_faultless (None ∷ faults) all = of_faultless faults all.1
of_faultless (Some fault ∷ faults) all = let none : Some fault ≡ None = all.0 in cc

card_place : (seed number : ℕ) → number < 40_000 → first_fault (place_faults (made_card seed number)) ≡ Ok tt
unfolding place_faults
card_place seed number few = of_faultless (place_faults (made_card seed number)) (
  id_passes number (omega (arith, few)),
  (
    id_passes (note_of_card number) (few_notes number few),
    (
      id_free 1 (omega arith) (omega arith),
      (
        at_most 3 (place_of_card number) 0 499 (omega arith) (few_places number),
        (
          stamp_passes,
          (from_below 5 0 0 2_147_483_647 (omega arith), tt),
        ),
      ),
    ),
  ),
)

card_schedule : (seed number : ℕ) → first_fault (schedule_faults (made_card seed number)) ≡ Ok tt
unfolding schedule_faults
card_schedule seed number = of_faultless (schedule_faults (made_card seed number)) (
  at_most 6 2 0 3 (omega arith) (omega arith),
  (
    from_below 7 2 2 3 (omega arith),
    (
      back_passes (nth_word seed (words_before_card number + 1) % 10) (mod_below (nth_word seed (words_before_card number + 1)) 10 (omega arith)),
      (
        ivl_passes 9 seed number,
        (
          factor_passes 10 seed number,
          (
            at_most 11 4 0 2_147_483_647 (omega arith) (omega arith),
            (
              at_most 12 0 0 2_147_483_647 (omega arith) (omega arith),
              (at_most 13 0 0 999_999 (omega arith) (omega arith), tt),
            ),
          ),
        ),
      ),
    ),
  ),
)

card_marks : (seed number : ℕ) → first_fault (mark_faults (made_card seed number)) ≡ Ok tt
unfolding mark_faults id_or_zero_fault long_fault code_fault
card_marks seed number = refl

pub card_passes : (seed number : ℕ) → number < 40_000 → IsCheckedCard (made_card seed number)
card_passes seed number few =
    let card = made_card seed number in
    fault_behind (place_faults card) (schedule_faults card ++ mark_faults card) tt (card_place seed number few)
    ∙ fault_behind (schedule_faults card) (mark_faults card) tt (card_schedule seed number) ∙ card_marks seed number

pub review_passes : (seed number : ℕ) → number < 160_000 → IsCheckedReview (made_review seed number)
review_passes seed number few = of_faultless (review_faults (made_review seed number)) (
  review_id_passes number few,
  (
    id_passes (number / 4) (omega (arith, few)),
    (
      from_below 2 0 0 2_147_483_647 (omega arith),
      (
        at_most 3 (2 + nth_word seed (words_before_review number) % 3) 0 4 (omega arith) (omega (arith, mod_below (nth_word seed (words_before_review number)) 3 (omega arith))),
        (
          ivl_passes_past seed (number / 4),
          (
            from_below 5 1 999_999_999 1_000_000 (omega arith),
            (
              factor_passes 6 seed (number / 4),
              (
                at_most 7 (1_000 + nth_word seed (words_before_review number + 1) % 9_000) 0 4_294_967_295 (omega arith)
                    (omega (arith, mod_below (nth_word seed (words_before_review number + 1)) 9_000 (omega arith))),
                (at_most 8 1 0 3 (omega arith) (omega arith), tt),
              ),
            ),
          ),
        ),
      ),
    ),
  ),
)
