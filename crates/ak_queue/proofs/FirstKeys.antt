-- The first of keys that are put in one by one.
use Rattle.std.proofs.Common.{◌≡◌, ◌≤◌, ℕ, zero, suc, false, List, [], ◌∷◌, ◌++◌, length, take, Ordering, Less, Equal, Greater, refl, sym, ap, ◌∙◌, arith, true≢false}
use Rattle.std.proofs.lemmas.List.{take-append-le, take-take}
use Rattle.std.specs.BTreeSet.{insert_key}
use Rattle.std.specs.Cmp.{IsTotalOrder}
use Rattle.std.specs.List.{All, AllByRecursion}
use Rattle.std.specs.Ordering.{is_lt, match_ordering, ordering_reverse}
use Rattle.ak_queue.specs.Orders.{put_among}

-- what stands past the first ones never comes to be among the first, if one is put in before it
one_more : {K : Type 0} (n : ℕ) (x : K) (xs : List K) → take n (x ∷ take n xs) ≡ take n (x ∷ xs)
one_more zero x xs = refl
one_more (suc n) x xs = ap (λ ks. x ∷ ks) (take-take n (suc n) xs (omega arith))

module _ {K : Type 0} (cmp : K → K → Ordering) where
  -- a key put in among the first ones
  first_inserted : (n : ℕ) (xs : List K) (k : K) → take n (insert_key cmp (take n xs) k) ≡ take n (insert_key cmp xs k)
  first_inserted zero xs k = refl
  first_inserted (suc n) [] k = refl
  first_inserted (suc n) (x ∷ xs) k =
      elim (cmp k x) as (λ r. take (suc n) (match_ordering r (k ∷ x ∷ take n xs) (x ∷ take n xs) (x ∷ insert_key cmp (take n xs) k)) ≡ take (suc n) (match_ordering r (k ∷ x ∷ xs) (x ∷ xs) (x ∷ insert_key cmp xs k))) [
        | Less ↦ ap (λ ks. k ∷ ks) (one_more n x xs)
        | Equal ↦ ap (λ ks. x ∷ ks) (take-take n n xs (omega arith))
        | Greater ↦ ap (λ ks. x ∷ ks) (first_inserted n xs k)
      ]

  -- keys put in among the first ones
  first_put : (n : ℕ) (xs keys : List K) → take n (put_among cmp (take n xs) keys) ≡ take n (put_among cmp xs keys)
  first_put n xs [] = take-take n n xs (omega arith)
  first_put n xs (k ∷ keys) =
      sym (first_put n (insert_key cmp (take n xs) k) keys)
      ∙ ap (λ ks. take n (put_among cmp ks keys)) (first_inserted n xs k)
      ∙ first_put n (insert_key cmp xs k) keys

  -- lists with the same first ones have the same first ones after more keys
  pub same_first : (n : ℕ) (xs ys keys : List K) → take n xs ≡ take n ys → take n (put_among cmp xs keys) ≡ take n (put_among cmp ys keys)
  same_first n xs ys keys same = sym (first_put n xs keys) ∙ ap (λ ks. take n (put_among cmp ks keys)) same ∙ first_put n ys keys

  -- a key that comes after all is put at the end
  last_inserted : (xs : List K) (k : K) → AllByRecursion (λ x. cmp k x ≡ Greater) xs → insert_key cmp xs k ≡ xs ++ k ∷ []
  last_inserted [] k after = refl
  last_inserted (x ∷ xs) k after = ap (λ r. match_ordering r (k ∷ x ∷ xs) (x ∷ xs) (x ∷ insert_key cmp xs k)) after.0 ∙ ap (λ ks. x ∷ ks) (last_inserted xs k after.1)

  -- and is not among the first, if there are as many before it
  pub comes_last : (n : ℕ) (xs : List K) (k : K) → n ≤ length xs → AllByRecursion (λ x. cmp k x ≡ Greater) xs → take n xs ≡ take n (insert_key cmp xs k)
  comes_last n xs k few after = sym (ap (take n) (last_inserted xs k after) ∙ take-append-le n xs (k ∷ []) few)

  -- a key that comes after one that none comes after, comes after all
  past_all : IsTotalOrder cmp → (last k : K) (xs : List K) → cmp last k ≡ Less → All (λ x. is_lt (cmp last x) ≡ false) xs → AllByRecursion (λ x. cmp k x ≡ Greater) xs
  past_all o last k [] less all = tt
  past_all o last k (x ∷ xs) less all = (after, past_all o last k xs less (λ j d inside. all (suc j) d (omega (arith, inside))))
    where
      from_less : cmp x k ≡ Less → cmp k x ≡ Greater
      from_less e = o.antisymm k x ∙ ap ordering_reverse e

      after : cmp k x ≡ Greater
      after =
          elim (cmp last x) as (λ r. cmp last x ≡ r → is_lt r ≡ false → cmp k x ≡ Greater) [
            | Less ↦ λ e f. absurd (true≢false f)
            | Equal ↦ λ e f. from_less (sym (o.congr last x k e) ∙ less)
            | Greater ↦ λ e f. from_less (o.trans x last k (o.antisymm x last ∙ ap ordering_reverse e) less)
          ] refl (all zero x (omega arith))

  -- so it is left out
  pub left_out : IsTotalOrder cmp → (n : ℕ) (last k : K) (xs : List K) → n ≤ length xs → cmp last k ≡ Less → All (λ x. is_lt (cmp last x) ≡ false) xs → take n xs ≡ take n (insert_key cmp xs k)
  left_out o n last k xs few less all = comes_last n xs k few (past_all o last k xs less all)
