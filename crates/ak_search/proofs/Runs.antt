-- A pattern is matched run by run: behind an `Any` the first place at which the items up to the next one serve decides.
use Rattle.std.proofs.Common.{◌≡◌, ◌==◌, ℕ, zero, suc, ◌+◌, ◌<◌, ◌≤◌, Bool, true, false, ◌&&◌, ◌||◌, cond, List, [], ◌∷◌, length, drop, Option, Some, None, refl, sym, ap, subst, ◌∙◌, arith}
use Rattle.std.proofs.lemmas.Bool.{ne_eqb}
use Rattle.std.proofs.lemmas.List.{drop-drop}
use Rattle.std.specs.Cmp.{second_so}
use Rattle.std.specs.Option.{option_and_then}
use Rattle.ak_search.specs.declared.patterns.PatternItem.{PatternItem}
use Rattle.ak_search.specs.declared.patterns.PatternItem.TheVariants.{Any, One, Apart, Is}
use Rattle.ak_search.specs.Patterns.{fits, takes}
use Rattle.ak_search.specs.Runs.{run_behind}

-- ---- truth values
by_cases : (a b : Bool) → (a ≡ true → b ≡ true) → (b ≡ true → a ≡ true) → a ≡ b
by_cases true b there back = sym (there refl)
by_cases false true there back = back refl
by_cases false false there back = refl

or_second : (a b : Bool) → b ≡ true → (a || b) ≡ true
or_second true b is = refl
or_second false b is = is

-- ---- behind an `Any`
-- nothing more fits whatever is left
pub any_fits : (xs : List ℕ) → fits (Any ∷ []) xs ≡ true
unfolding fits
any_fits [] = refl
any_fits (x ∷ xs) = any_fits xs

-- what fits at the beginning fits somewhere
pub fits_first : (p : List PatternItem) (xs : List ℕ) → fits p xs ≡ true → fits (Any ∷ p) xs ≡ true
unfolding fits
fits_first p [] is = is
fits_first p (x ∷ xs) is = ap (λ b. b || fits (Any ∷ p) xs) is

-- what does not fit at the beginning may fit later
pub fits_later : (p : List PatternItem) (x : ℕ) (xs : List ℕ) → fits p (x ∷ xs) ≡ false → fits (Any ∷ p) (x ∷ xs) ≡ fits (Any ∷ p) xs
unfolding fits
fits_later p x xs is = ap (λ b. b || fits (Any ∷ p) xs) is

pub fits_never : (p : List PatternItem) → fits p [] ≡ false → fits (Any ∷ p) [] ≡ false
unfolding fits
fits_never p is = is

-- what fits somewhere fits from some place on
some_place : (p : List PatternItem) (xs : List ℕ) → fits (Any ∷ p) xs ≡ true → (k : ℕ) × (fits p (drop k xs) ≡ true)
unfolding fits
some_place p [] is = (0, is)
some_place p (x ∷ xs) is =
    elim (fits p (x ∷ xs)) as (λ b. fits p (x ∷ xs) ≡ b → (b || fits (Any ∷ p) xs) ≡ true → (k : ℕ) × (fits p (drop k (x ∷ xs)) ≡ true)) [
      | true ↦ λ here _. (0, here)
      | false ↦ λ _ is. let more = some_place p xs is in (suc more.0, more.1)
    ] refl is

-- an `Any` takes what is before a place
absorbed : (p : List PatternItem) (k : ℕ) (xs : List ℕ) → fits (Any ∷ p) (drop k xs) ≡ true → fits (Any ∷ p) xs ≡ true
unfolding fits
absorbed p zero xs is = is
absorbed p (suc k) [] is = is
absorbed p (suc k) (x ∷ xs) is = or_second (fits p (x ∷ xs)) (fits (Any ∷ p) xs) (absorbed p k xs is)

-- ---- runs
-- how many items are in a run, and what is behind it
run_length : List PatternItem → ℕ
run_length [] = 0
run_length (Any ∷ p) = 0
run_length (One ∷ p) = suc (run_length p)
run_length (Apart ∷ p) = suc (run_length p)
run_length (Is own ∷ p) = suc (run_length p)

past_run : List PatternItem → List PatternItem
past_run [] = []
past_run (Any ∷ p) = Any ∷ p
past_run (One ∷ p) = past_run p
past_run (Apart ∷ p) = past_run p
past_run (Is own ∷ p) = past_run p

-- whatever fits, what is behind the run fits what is behind as many characters
fits_past : (p : List PatternItem) (xs : List ℕ) → fits p xs ≡ true → fits (past_run p) (drop (run_length p) xs) ≡ true
unfolding fits run_length past_run
fits_past [] xs is = is
fits_past (Any ∷ p) xs is = is
fits_past (One ∷ p) [] is = cc
fits_past (One ∷ p) (x ∷ xs) is = fits_past p xs is
fits_past (Apart ∷ p) [] is = cc
fits_past (Apart ∷ p) (x ∷ xs) is = fits_past p xs (second_so (takes Apart x) (fits p xs) is)
fits_past (Is own ∷ p) [] is = cc
fits_past (Is own ∷ p) (x ∷ xs) is = fits_past p xs (second_so (takes (Is own) x) (fits p xs) is)

-- what a run leaves
record IsRun (p : List PatternItem) (xs : List ℕ) (q : List PatternItem) (ys : List ℕ) : Type 0 where
  behind : past_run p ≡ q
  left : drop (run_length p) xs ≡ ys
  same : fits p xs ≡ fits q ys

same_left : (p q : List PatternItem) (xs ys : List ℕ) → ◌≡◌ {A = Option (List PatternItem × List ℕ)} (Some (p, xs)) (Some (q, ys)) → IsRun p xs p xs → IsRun p xs q ys
same_left p q xs ys is run =
    let unwrapped : Option (List PatternItem × List ℕ) → List PatternItem × List ℕ = λ o. elim o [ None ↦ (p, xs) | Some both ↦ both ] in
    let both : ◌≡◌ {A = List PatternItem × List ℕ} (p, xs) (q, ys) = ap unwrapped is in
    subst (λ (b : List PatternItem × List ℕ). IsRun p xs b.0 b.1) both run

one_taken : (item : PatternItem) (p : List PatternItem) (x : ℕ) (xs : List ℕ) (q : List PatternItem) (ys : List ℕ) → past_run (item ∷ p) ≡ past_run p → run_length (item ∷ p) ≡ suc (run_length p)
    → fits (item ∷ p) (x ∷ xs) ≡ fits p xs → IsRun p xs q ys → IsRun (item ∷ p) (x ∷ xs) q ys
one_taken item p x xs q ys behind length same run = record {
  behind = behind ∙ run.behind;
  left = ap (λ n. drop n (x ∷ xs)) length ∙ run.left;
  same = same ∙ run.same;
}

served : (p : List PatternItem) (xs : List ℕ) (q : List PatternItem) (ys : List ℕ) → run_behind p xs ≡ Some (q, ys) → IsRun p xs q ys
unfolding fits run_length past_run
served [] xs q ys is = same_left [] q xs ys is (record { behind = refl; left = refl; same = refl })
served (Any ∷ p) xs q ys is = same_left (Any ∷ p) q xs ys is (record { behind = refl; left = refl; same = refl })
served (One ∷ p) [] q ys is = cc
served (One ∷ p) (x ∷ xs) q ys is = one_taken One p x xs q ys refl refl refl (served p xs q ys is)
served (Apart ∷ p) [] q ys is = cc
served (Apart ∷ p) (x ∷ xs) q ys is =
    elim (takes Apart x) as (λ b. takes Apart x ≡ b → option_and_then (run_behind p) (cond b (Some xs) None) ≡ Some (q, ys) → IsRun (Apart ∷ p) (x ∷ xs) q ys) [
      | true ↦ λ takes is. one_taken Apart p x xs q ys refl refl (ap (λ b. b && fits p xs) takes) (served p xs q ys is)
      | false ↦ λ _ is. absurd (cc)
    ] refl is
served (Is own ∷ p) [] q ys is = cc
served (Is own ∷ p) (x ∷ xs) q ys is =
    elim (takes (Is own) x) as (λ b. takes (Is own) x ≡ b → option_and_then (run_behind p) (cond b (Some xs) None) ≡ Some (q, ys) → IsRun (Is own ∷ p) (x ∷ xs) q ys) [
      | true ↦ λ takes is. one_taken (Is own) p x xs q ys refl refl (ap (λ b. b && fits p xs) takes) (served p xs q ys is)
      | false ↦ λ _ is. absurd (cc)
    ] refl is

pub broken : (p : List PatternItem) (xs : List ℕ) → run_behind p xs ≡ None → fits p xs ≡ false
unfolding fits
broken [] xs is = absurd (cc)
broken (Any ∷ p) xs is = absurd (cc)
broken (One ∷ p) [] is = refl
broken (One ∷ p) (x ∷ xs) is = broken p xs is
broken (Apart ∷ p) [] is = refl
broken (Apart ∷ p) (x ∷ xs) is =
    elim (takes Apart x) as (λ b. option_and_then (run_behind p) (cond b (Some xs) None) ≡ None → (b && fits p xs) ≡ false) [ true ↦ λ is. broken p xs is | false ↦ λ _. refl ] is
broken (Is own ∷ p) [] is = refl
broken (Is own ∷ p) (x ∷ xs) is =
    elim (takes (Is own) x) as (λ b. option_and_then (run_behind p) (cond b (Some xs) None) ≡ None → (b && fits p xs) ≡ false) [ true ↦ λ is. broken p xs is | false ↦ λ _. refl ] is

-- a run ends at the end of the pattern, or before an `Any`
any_behind : (p : List PatternItem) (item : PatternItem) (q : List PatternItem) → past_run p ≡ item ∷ q → item ≡ Any
unfolding past_run
any_behind [] item q is = cc
any_behind (Any ∷ p) item q is = cc
any_behind (One ∷ p) item q is = any_behind p item q is
any_behind (Apart ∷ p) item q is = any_behind p item q is
any_behind (Is own ∷ p) item q is = any_behind p item q is

pub any_next : (p : List PatternItem) (xs : List ℕ) (item : PatternItem) (q : List PatternItem) (ys : List ℕ) → run_behind p xs ≡ Some (item ∷ q, ys) → item ≡ Any
any_next p xs item q ys is = any_behind p item q (served p xs (item ∷ q) ys is).behind

-- the whole pattern fits where what a run leaves of it fits what it leaves of the characters
pub same_behind : (p : List PatternItem) (xs : List ℕ) (q : List PatternItem) (ys : List ℕ) → run_behind p xs ≡ Some (q, ys) → fits p xs ≡ fits q ys
same_behind p xs q ys is = (served p xs q ys is).same

-- ---- the first place that serves decides
pub first_serves : (p : List PatternItem) (xs : List ℕ) (item : PatternItem) (q : List PatternItem) (ys : List ℕ) → run_behind p xs ≡ Some (item ∷ q, ys) → fits (Any ∷ p) xs ≡ fits (Any ∷ q) ys
first_serves p xs item q ys is =
    let run = served p xs (item ∷ q) ys is in
    let any : item ≡ Any = any_next p xs item q ys is in
    let behind : past_run p ≡ Any ∷ q = run.behind ∙ ap (λ i. i ∷ q) any in
    by_cases (fits (Any ∷ p) xs) (fits (Any ∷ q) ys)
    (λ fit.
    let place = some_place p xs fit in
    let there : fits (Any ∷ q) (drop (run_length p) (drop place.0 xs)) ≡ true = subst (λ (r : List PatternItem). fits r (drop (run_length p) (drop place.0 xs)) ≡ true) behind (fits_past p (drop place.0 xs) place.1) in
    let swapped : drop (run_length p) (drop place.0 xs) ≡ drop place.0 (drop (run_length p) xs) =
    drop-drop (run_length p) place.0 xs ∙ ap (λ n. drop n xs) (let e : place.0 + run_length p ≡ run_length p + place.0 = omega arith in e) ∙ sym (drop-drop place.0 (run_length p) xs) in
    absorbed q place.0 ys (subst (λ zs. fits (Any ∷ q) zs ≡ true) (swapped ∙ ap (drop place.0) run.left) there))
    (λ fit. fits_first p xs (run.same ∙ ap (λ i. fits (i ∷ q) ys) any ∙ fit))

-- ---- the sizes of what a run leaves
shorter : (p : List PatternItem) → length (past_run p) ≤ length p
unfolding past_run
shorter [] = omega arith
shorter (Any ∷ p) = omega arith
shorter (One ∷ p) = omega (arith, shorter p)
shorter (Apart ∷ p) = omega (arith, shorter p)
shorter (Is own ∷ p) = omega (arith, shorter p)

fewer : (n : ℕ) (xs : List ℕ) → length (drop n xs) ≤ length xs
fewer zero xs = omega arith
fewer (suc n) [] = omega arith
fewer (suc n) (x ∷ xs) = omega (arith, fewer n xs)

pub less_behind : (p : List PatternItem) (xs : List ℕ) (item : PatternItem) (q : List PatternItem) (ys : List ℕ) → run_behind p xs ≡ Some (item ∷ q, ys) → length q + length ys < length p + length xs
less_behind p xs item q ys is =
    let run = served p xs (item ∷ q) ys is in
    let items : length (item ∷ q) ≤ length p = subst (λ (r : List PatternItem). length r ≤ length p) run.behind (shorter p) in
    let letters : length ys ≤ length xs = subst (λ (r : List ℕ). length r ≤ length xs) run.left (fewer (run_length p) xs) in
    omega (arith, items, letters)

-- ---- what a try comes to
-- a pattern that does not fit here is tried at the next place, if there is one
pub tried_later : (p : List PatternItem) (xs : List ℕ) (x : ℕ) (later : List ℕ) → xs ≡ x ∷ later → fits p xs ≡ false → (fits (Any ∷ p) xs ≡ fits (Any ∷ p) later) × (length p + length later < length p + length xs)
tried_later p xs x later is none =
    let longer : length xs ≡ suc (length later) = ap length is in
    (ap (fits (Any ∷ p)) is ∙ fits_later p x later (ap (fits p) (sym is) ∙ none), omega (arith, longer))

pub tried_last : (p : List PatternItem) (xs : List ℕ) → length xs ≡ 0 → fits p xs ≡ false → false ≡ fits (Any ∷ p) xs
tried_last p [] is none = sym (fits_never p none)
tried_last p (x ∷ xs) is none = absurd (omega (arith, is))

-- nothing is behind the run: it fits where no character is left
not_nothing : (n : ℕ) → false ≡ (suc n == 0)
not_nothing n = sym (ne_eqb (suc n) 0 (λ e. omega (arith, e)))

fits_nothing : (ys : List ℕ) → fits [] ys ≡ (length ys == 0)
unfolding fits
fits_nothing [] = refl
fits_nothing (y ∷ ys) = not_nothing (length ys)

pub whole_ended : (p : List PatternItem) (xs : List ℕ) (q : List PatternItem) (ys : List ℕ) → length q ≡ 0 → run_behind p xs ≡ Some (q, ys) → fits p xs ≡ (length ys == 0)
whole_ended p xs [] ys none is = same_behind p xs [] ys is ∙ fits_nothing ys
whole_ended p xs (item ∷ q) ys none is = absurd (omega (arith, none))

-- an `Any` is behind the run
pub whole_served : (p : List PatternItem) (xs : List ℕ) (q : List PatternItem) (ys : List ℕ) (item : PatternItem) (others : List PatternItem) → q ≡ item ∷ others → run_behind p xs ≡ Some (q, ys) → fits (Any ∷ others) ys ≡ fits p xs
whole_served p xs q ys item others behind is =
    let run : run_behind p xs ≡ Some (item ∷ others, ys) = subst (λ (r : List PatternItem). run_behind p xs ≡ Some (r, ys)) behind is in
    sym (same_behind p xs (item ∷ others) ys run ∙ ap (λ i. fits (i ∷ others) ys) (any_next p xs item others ys run))

pub tried_served : (p : List PatternItem) (xs : List ℕ) (q : List PatternItem) (ys : List ℕ) (item : PatternItem) (others : List PatternItem) → q ≡ item ∷ others → run_behind p xs ≡ Some (q, ys)
    → (fits (Any ∷ p) xs ≡ fits (Any ∷ others) ys) × (length others + length ys < length p + length xs)
tried_served p xs q ys item others behind is =
    let run : run_behind p xs ≡ Some (item ∷ others, ys) = subst (λ (r : List PatternItem). run_behind p xs ≡ Some (r, ys)) behind is in
    (first_serves p xs item others ys run, less_behind p xs item others ys run)

-- no item is left
pub none_left : (p : List PatternItem) (xs : List ℕ) → length p ≡ 0 → true ≡ fits (Any ∷ p) xs
none_left [] xs none = sym (any_fits xs)
none_left (item ∷ p) xs none = absurd (omega (arith, none))
