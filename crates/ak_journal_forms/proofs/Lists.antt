-- Fronts and rests of lists.
use Rattle.std.proofs.Common.{◌≡◌, ℕ, zero, suc, ◌+◌, List, [], ◌∷◌, ◌++◌, length, take, drop, refl, ap, arith}

-- what is taken past a front
pub take_past : (xs ys : List ℕ) (m n : ℕ) → m ≡ length xs + n → take m (xs ++ ys) ≡ xs ++ take n ys
take_past [] ys m n is = let same : m ≡ n = omega arith in ap (λ (k : ℕ). take k ys) same
take_past (x ∷ xs) ys zero n is = absurd (omega arith)
take_past (x ∷ xs) ys (suc m) n is = ap (λ (l : List ℕ). x ∷ l) (take_past xs ys m n (omega arith))

pub drop_past : (xs ys : List ℕ) (m n : ℕ) → m ≡ length xs + n → drop m (xs ++ ys) ≡ drop n ys
drop_past [] ys m n is = let same : m ≡ n = omega arith in ap (λ (k : ℕ). drop k ys) same
drop_past (x ∷ xs) ys zero n is = absurd (omega arith)
drop_past (x ∷ xs) ys (suc m) n is = drop_past xs ys m n (omega arith)

-- a front in two parts
pub take_both : (xs : List ℕ) (k m n : ℕ) → k ≡ m + n → take k xs ≡ take m xs ++ take n (drop m xs)
take_both xs k zero n is = let same : k ≡ n = omega arith in ap (λ (i : ℕ). take i xs) same
take_both [] zero (suc m) n is = absurd (omega arith)
take_both [] (suc k) (suc m) zero is = refl
take_both [] (suc k) (suc m) (suc n) is = refl
take_both (x ∷ xs) zero (suc m) n is = absurd (omega arith)
take_both (x ∷ xs) (suc k) (suc m) n is = ap (λ (l : List ℕ). x ∷ l) (take_both xs k m n (omega arith))
