-- How many steps fit into the day: the walk stops at the first sum that does not fit.
use Rattle.std.proofs.Common.{◌≡◌, ℕ, zero, suc, ◌+◌, ◌-◌, ◌<◌, ◌≤◌, max, List, [], ◌∷◌, length, take, drop, get_or, inl, inr, arith}
use Rattle.std.specs.List.{sum}
use Rattle.std.proofs.lemmas.Grind.{common_steps}
use Rattle.std.proofs.lemmas.List.{get_or-drop}
use Rattle.std.proofs.lemmas.List.Sums.{sum_by-cons}
use Rattle.std.proofs.Common.{length-drop}
use Rattle.ak_sched.specs.Steps.{IsStepsToday, counted, last_delays}

pub sum_take_le : (xs : List ℕ) (i j : ℕ) → i ≤ j → sum (take i xs) ≤ sum (take j xs)
sum_take_le [] zero j h = omega arith
sum_take_le [] (suc i) zero h = omega arith
sum_take_le [] (suc i) (suc j) h = omega arith
sum_take_le (x ∷ xs) zero j h = omega arith
sum_take_le (x ∷ xs) (suc i) zero h = omega arith
sum_take_le (x ∷ xs) (suc i) (suc j) h =
    let rest : sum (take i xs) ≤ sum (take j xs) = sum_take_le xs i j (omega arith) in
    omega (arith, sum_by-cons (λ (n : ℕ). n) x (take i xs), sum_by-cons (λ (n : ℕ). n) x (take j xs))

-- one more delay
pub sum_more : (ds : List ℕ) (from done : ℕ) → from + done < length ds → sum (take (done + 1) (drop from ds)) ≡ sum (take done (drop from ds)) + get_or ds (from + done) 0
sum_more ds from done h = grind (arith, common_steps, get_or-drop {A = ℕ}, length-drop {A = ℕ})

-- the walk stops before a sum that does not fit
pub today_before :
    (ds : List ℕ) (seconds_left left done today : ℕ) → today ≡ max done 1 → done < counted ds left →
    sum (take done (last_delays ds (counted ds left))) ≤ seconds_left →
    seconds_left < sum (take (done + 1) (last_delays ds (counted ds left))) →
    IsStepsToday ds seconds_left left today
today_before ds seconds_left left zero today is below within over =
    let one : today ≡ 1 = omega arith in
    record {
      one = omega arith;
      all = omega arith;
      fits = inl one;
      most = λ more h k.
          let grows = sum_take_le (last_delays ds (counted ds left)) 1 more (omega arith) in
          omega arith;
    }
today_before ds seconds_left left (suc done) today is below within over =
    let same : today ≡ suc done = omega arith in
    record {
      one = omega arith;
      all = omega arith;
      fits = inr (rw same within);
      most = λ more h k.
          let grows = sum_take_le (last_delays ds (counted ds left)) (suc done + 1) more (omega arith) in
          omega arith;
    }

-- the same as the walk has it
pub today_at :
    (ds : List ℕ) (seconds_left left done today count most total delay : ℕ) →
    count ≡ length ds → 1 ≤ count → most ≡ counted ds left → today ≡ max done 1 → done < most →
    total ≡ sum (take done (drop (count - most) ds)) → total ≤ seconds_left →
    delay ≡ get_or ds (count - most + done) 0 → seconds_left < total + delay →
    IsStepsToday ds seconds_left left today
today_at ds seconds_left left done today count most total delay whole some most_is today_is below total_is within delay_is over =
    let here : sum (take done (drop (count - most) ds)) ≡ sum (take done (last_delays ds (counted ds left))) = cc in
    let there : sum (take (done + 1) (drop (count - most) ds)) ≡ sum (take (done + 1) (last_delays ds (counted ds left))) = cc in
    let more : sum (take (done + 1) (drop (count - most) ds)) ≡ sum (take done (drop (count - most) ds)) + get_or ds (count - most + done) 0 = sum_more ds (count - most) done (omega arith) in
    today_before ds seconds_left left done today today_is (omega arith) (omega arith) (omega arith)
