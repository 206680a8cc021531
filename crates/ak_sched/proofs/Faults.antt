-- What a check that finds no fault says of the columns.
use Rattle.std.proofs.Common.{◌≡◌, ℕ, zero, suc, ℤ, pos, ◌<◌, ◌≤◌, List, [], ◌∷◌, ◌++◌, length, get_or, Option, Some, None, Ok, IsOk, refl, ◌≤ℤ◌, arith, rules}
use Rattle.ak_base.proofs.Optional.{first_none, second_none}
use Rattle.std.proofs.lemmas.Int.{ints}
use Rattle.std.proofs.lemmas.Bool.Decides.{nat_tests}
use Rattle.ak_base.specs.Columns.{code_fault, long_fault, first_fault}
use Rattle.ak_base.specs.OptionGroups.{bad_step, steps_fault}
use Rattle.ak_base.specs.declared.errors.RowFault.{RowFault}
use Rattle.ak_sched.specs.Counts.{clamped_to_zero}
use Rattle.ak_sched.specs.Ranges.{AreSteps}
use Rattle.ak_sched.proofs.Numbers.{clamped_le}

-- no column has a fault
abbrev pub AllFree : List (Option RowFault) → Type 0
AllFree [] = Unit {0}
AllFree (f ∷ fs) = (f ≡ None) × AllFree fs

pub all_free : (fs : List (Option RowFault)) → IsOk (first_fault fs) → AllFree fs
all_free [] h = tt
all_free (None ∷ fs) h = (refl, all_free fs h)
all_free (Some fault ∷ fs) h = cc

pub good_if_free : (fs : List (Option RowFault)) → AllFree fs → IsOk (first_fault fs)
good_if_free [] h = refl
good_if_free (None ∷ fs) h = good_if_free fs h.1
good_if_free (Some fault ∷ fs) h = let e : Some fault ≡ None = h.0 in cc

pub checked_ok : (fs : List (Option RowFault)) → first_fault fs ≡ Ok tt → IsOk (first_fault fs)
checked_ok [] e = refl
checked_ok (None ∷ fs) e = checked_ok fs e
checked_ok (Some fault ∷ fs) e = cc

pub ok_checked : (fs : List (Option RowFault)) → IsOk (first_fault fs) → first_fault fs ≡ Ok tt
ok_checked [] h = refl
ok_checked (None ∷ fs) h = ok_checked fs h
ok_checked (Some fault ∷ fs) h = cc

pub front_free : (fs gs : List (Option RowFault)) → IsOk (first_fault (fs ++ gs)) → IsOk (first_fault fs)
front_free [] gs h = search rules
front_free (None ∷ fs) gs h = front_free fs gs h
front_free (Some fault ∷ fs) gs h = h

pub rest_free : (fs gs : List (Option RowFault)) → IsOk (first_fault (fs ++ gs)) → IsOk (first_fault gs)
rest_free [] gs h = h
rest_free (None ∷ fs) gs h = rest_free fs gs h
rest_free (Some fault ∷ fs) gs h = cc

pub both_free : (fs gs : List (Option RowFault)) → IsOk (first_fault fs) → IsOk (first_fault gs) → IsOk (first_fault (fs ++ gs))
both_free [] gs h k = k
both_free (None ∷ fs) gs h k = both_free fs gs h k
both_free (Some fault ∷ fs) gs h k = h

pub code_free : (column : ℕ) (value least most : ℤ) → least ≤ℤ value → value ≤ℤ most → code_fault column value least most ≡ None
unfolding code_fault
code_free column value least most low high = grind (arith, ints)

pub code_low : (column : ℕ) (value least most : ℤ) → code_fault column value least most ≡ None → least ≤ℤ value
unfolding code_fault
code_low column value least most e = grind (arith, ints)

pub code_high : (column : ℕ) (value least most : ℤ) → code_fault column value least most ≡ None → value ≤ℤ most
unfolding code_fault
code_high column value least most e = grind (arith, ints)

pub long_high : (column length most : ℕ) → long_fault column length most ≡ None → length ≤ most
unfolding long_fault
long_high column length most e = grind (arith, nat_tests)

pub step_high : (column : ℕ) (steps : List ℤ) (i : ℕ) → bad_step (pos 60_000_000) column steps ≡ None → i < length steps → clamped_to_zero (get_or steps i (pos 0)) ≤ 60_000_000
step_high column [] i e h = omega arith
step_high column (step ∷ steps) zero e h =
    clamped_le step 60_000_000 (code_high column step (pos 1) (pos 60_000_000) (first_none _ (bad_step (pos 60_000_000) column steps) e))
step_high column (step ∷ steps) (suc i) e h =
    step_high column steps i (second_none (code_fault column step (pos 1) (pos 60_000_000)) _ e) (omega arith)

pub steps_in_range : (column : ℕ) (steps : List ℤ) → steps_fault (pos 60_000_000) column steps ≡ None → AreSteps steps
steps_in_range column steps e =
    let short : long_fault column (length steps) 50 ≡ None = first_none _ (bad_step (pos 60_000_000) column steps) e in
    let good : bad_step (pos 60_000_000) column steps ≡ None = second_none (long_fault column (length steps) 50) _ e in
    record {
      few = long_high column (length steps) 50 short;
      short = λ i h. step_high column steps i good h;
    }
