-- Chunks that are asked or sent one after the other are the slices of one list.
use Rattle.std.specs.Int.{div_ceil}
use Rattle.std.specs.List.{range_with_len}
use Rattle.std.specs.Prelude.{◌≡◌, ℕ, zero, suc, ◌+◌, ◌-◌, ◌*◌, ◌/◌, ◌%◌, ◌<◌, ◌≤◌, ◌⊎◌, List, [], ◌∷◌, ◌++◌, map, length, take, drop}
use Rattle.std.proofs.Common.{refl, sym, ap, ◌∙◌, append_assoc, append-nil, arith, inl, inr}
use Rattle.std.proofs.lemmas.List.{drop-append-le, drop-drop, drop_all, take-append-le, take_all}
use Rattle.std.proofs.lemmas.Nat.{div-add-mod', mod_below}
use Rattle.ak_base.specs.declared.rows.Row.{Row}
use Rattle.ak_session.specs.Slices.{slice, slices}
use Rattle.ak_sync_rows.specs.Chunks.{IsSlice}

-- ---- one slice more
counted : (a n : ℕ) → range_with_len a (suc n) ≡ range_with_len a n ++ (a + n) ∷ []
counted a zero = let same : a ≡ a + 0 = omega arith in ap (λ (k : ℕ). k ∷ []) same
counted a (suc n) =
    let same : a + 1 + n ≡ a + suc n = omega arith in
    ap (λ (l : List ℕ). a ∷ l) (counted (a + 1) n ∙ ap (λ (k : ℕ). range_with_len (a + 1) n ++ k ∷ []) same)

mapped : (f : ℕ → List Row) (xs : List ℕ) (k : ℕ) → map f (xs ++ k ∷ []) ≡ map f xs ++ f k ∷ []
mapped f [] k = refl
mapped f (x ∷ xs) k = ap (λ (l : List (List Row)). f x ∷ l) (mapped f xs k)

pub slices_go_on : (k : ℕ) (list : List Row) → slices (k + 1) list ≡ slices k list ++ slice k list ∷ []
slices_go_on k list =
    let next : k + 1 ≡ suc k = omega arith in
    let same : 0 + k ≡ k = omega arith in
    ap (λ (n : ℕ). slices n list) next
    ∙ ap (map (λ (n : ℕ). slice n list)) (counted 0 k)
    ∙ mapped (λ (n : ℕ). slice n list) (range_with_len 0 k) (0 + k)
    ∙ ap (λ (n : ℕ). slices k list ++ slice n list ∷ []) same

-- ---- slices that follow on each other
-- a slice of what is ahead is its front
part_is : (all part rest : List Row) → IsSlice all part rest → part ≡ take 250 all
part_is all part rest is = by is.full
  where
    by : (length part ≡ 250) ⊎ (rest ≡ []) → part ≡ take 250 all
    by (inl full) =
        sym (take_all 250 part is.short)
        ∙ sym (take-append-le 250 part rest (omega (arith, full)))
        ∙ ap (take 250) (sym is.whole)
    by (inr none) =
        sym (take_all 250 part is.short)
        ∙ ap (take 250) (sym (is.whole ∙ ap (λ (l : List Row). part ++ l) none ∙ append-nil part))

-- and what is ahead after a full one is the rest
rest_is : (all part rest : List Row) → IsSlice all part rest → length part ≡ 250 → rest ≡ drop 250 all
rest_is all part rest is full =
    let le : 250 ≤ length part = omega (arith, full) in
    let none : drop 250 part ≡ [] = drop_all 250 part (omega (arith, full)) in
    sym (ap (drop 250) is.whole ∙ drop-append-le 250 part rest le ∙ ap (λ (l : List Row). l ++ rest) none)

-- a part of what is left of a list after k slices is the next slice; if it is full, what is ahead is what is left after it
pub next_slice : (k : ℕ) (list ahead part rest : List Row) → ahead ≡ drop (250 * k) list → IsSlice ahead part rest → part ≡ slice k list
next_slice k list ahead part rest left is = part_is ahead part rest is ∙ ap (take 250) left

pub left_after_slice : (k : ℕ) (list ahead part rest : List Row) → ahead ≡ drop (250 * k) list → IsSlice ahead part rest → length part ≡ 250
    → rest ≡ drop (250 * (k + 1)) list
left_after_slice k list ahead part rest left is full =
    let same : 250 * k + 250 ≡ 250 * (k + 1) = omega arith in
    rest_is ahead part rest is full ∙ ap (drop 250) left ∙ drop-drop 250 (250 * k) list ∙ ap (λ (n : ℕ). drop n list) same

-- ---- fronts of the slices
front_of : (k d : ℕ) (list : List Row) → (rest : List (List Row)) × (slices k list ++ rest ≡ slices (k + d) list)
front_of k zero list =
    let same : k ≡ k + 0 = omega arith in
    ([], append-nil (slices k list) ∙ ap (λ (n : ℕ). slices n list) same)
front_of k (suc d) list =
    let more = front_of k d list in
    let next : k + d + 1 ≡ k + suc d = omega arith in (
      more.0 ++ slice (k + d) list ∷ [],
      sym (append_assoc (slices k list) more.0 (slice (k + d) list ∷ []))
          ∙ ap (λ (l : List (List Row)). l ++ slice (k + d) list ∷ []) more.1
          ∙ sym (slices_go_on (k + d) list)
          ∙ ap (λ (n : ℕ). slices n list) next,
    )

-- the first slices are a front of more of them
pub front_below : (k n : ℕ) (list : List Row) → k ≤ n → (rest : List (List Row)) × (slices k list ++ rest ≡ slices n list)
front_below k n list le =
    let front = front_of k (n - k) list in
    let same : k + (n - k) ≡ n = omega (arith, le) in
    (front.0, front.1 ∙ ap (λ (m : ℕ). slices m list) same)

-- ---- how many slices there are
pub is_filled : (k n : ℕ) → 250 * k < n → k + 1 ≤ div_ceil n 250
is_filled k n less =
    let whole = div-add-mod' n 250 in
    let below : n % 250 < 250 = mod_below n 250 (omega arith) in
    omega (arith, whole, below, less)

pub is_until_short : (k n : ℕ) → 250 * k ≤ n → k + 1 ≤ n / 250 + 1
is_until_short k n le =
    let whole = div-add-mod' n 250 in
    let below : n % 250 < 250 = mod_below n 250 (omega arith) in
    omega (arith, whole, below, le)

-- the slice that is not full is the last one
pub ends_short : (k n : ℕ) → 250 * k ≤ n → n < 250 * (k + 1) → k + 1 ≡ n / 250 + 1
ends_short k n le less =
    let whole = div-add-mod' n 250 in
    let below : n % 250 < 250 = mod_below n 250 (omega arith) in
    omega (arith, whole, below, le, less)
