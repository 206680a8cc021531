-- Keys that are put in one by one ascend, and none is lost.
use Rattle.std.proofs.Common.{◌≡◌, Bool, true, false, ◌&&◌, List, [], ◌∷◌, Ordering, Less, Equal, Greater, int_cmp, refl, sym, ap, ◌∙◌}
use Rattle.std.specs.BTreeSet.{insert_key}
use Rattle.std.specs.Cmp.{IsTotalOrder, then_total, on_total, int_cmp_total}
use Rattle.std.specs.FinMap.{IsAntisymmetric, nat_cmp-IsAntisymmetric, int_cmp-IsAntisymmetric, slice_cmp-IsAntisymmetric}
use Rattle.std.specs.List.{AllByRecursion, list_all}
use Rattle.std.specs.List.Sorted.{IsStrictlySortedBy}
use Rattle.std.specs.Ordering.{match_ordering, ordering_reverse, ordering_then}
use Rattle.ak_queue.specs.Orders.{DueKey, NewKey, due_cmp, new_cmp, parts_cmp, parts_total, put_among, in_order}

module _ {K : Type 0} (cmp : K → K → Ordering) (o : IsTotalOrder cmp) where
  below_all : (k x : K) (xs : List K) → cmp k x ≡ Less → AllByRecursion (λ y. cmp x y ≡ Less) xs → AllByRecursion (λ y. cmp k y ≡ Less) xs
  below_all k x [] less all = tt
  below_all k x (y ∷ ys) less all = (o.trans k x y less all.0, below_all k x ys less all.1)

  pub all_inserted : (P : K → Type 0) (xs : List K) (k : K) → AllByRecursion P xs → P k → AllByRecursion P (insert_key cmp xs k)
  all_inserted P [] k all one = (one, tt)
  all_inserted P (x ∷ xs) k all one =
      elim (cmp k x) as (λ r. AllByRecursion P (match_ordering r (k ∷ x ∷ xs) (x ∷ xs) (x ∷ insert_key cmp xs k))) [
        | Less ↦ (one, all)
        | Equal ↦ all
        | Greater ↦ (all.0, all_inserted P xs k all.1 one)
      ]

  inserted_sorted : (xs : List K) (k : K) → IsStrictlySortedBy cmp xs → IsStrictlySortedBy cmp (insert_key cmp xs k)
  unfolding IsStrictlySortedBy
  inserted_sorted [] k sorted = (tt, tt)
  inserted_sorted (x ∷ xs) k sorted =
      elim (cmp k x) as (λ r. cmp k x ≡ r → IsStrictlySortedBy cmp (match_ordering r (k ∷ x ∷ xs) (x ∷ xs) (x ∷ insert_key cmp xs k))) [
        | Less ↦ λ e. ((e, below_all k x xs e sorted.0), sorted)
        | Equal ↦ λ e. sorted
        | Greater ↦ λ e. (all_inserted (λ y. cmp x y ≡ Less) xs k sorted.0 (o.antisymm x k ∙ ap ordering_reverse e), inserted_sorted xs k sorted.1)
      ] refl

  pub put_sorted : (sorted keys : List K) → IsStrictlySortedBy cmp sorted → IsStrictlySortedBy cmp (put_among cmp sorted keys)
  put_sorted sorted [] h = h
  put_sorted sorted (k ∷ keys) h = put_sorted (insert_key cmp sorted k) keys (inserted_sorted sorted k h)

  pub order_ascends : (keys : List K) → IsStrictlySortedBy cmp (in_order cmp keys)
  unfolding IsStrictlySortedBy
  order_ascends keys = put_sorted [] keys tt

both_swap : (a b c : Bool) → (a && (b && c)) ≡ (b && (a && c))
both_swap true b c = refl
both_swap false true c = refl
both_swap false false c = refl

both_twice : (a c : Bool) → (a && c) ≡ (a && (a && c))
both_twice true c = refl
both_twice false c = refl

both_assoc : (a b c : Bool) → ((a && b) && c) ≡ (b && (a && c))
both_assoc true b c = refl
both_assoc false true c = refl
both_assoc false false c = refl

module _ {K : Type 0} (cmp : K → K → Ordering) (exact : IsAntisymmetric cmp) (p : K → Bool) where
  inserted_whole : (xs : List K) (k : K) → list_all p (insert_key cmp xs k) ≡ (p k && list_all p xs)
  inserted_whole [] k = refl
  inserted_whole (x ∷ xs) k =
      elim (cmp k x) as (λ r. cmp k x ≡ r → list_all p (match_ordering r (k ∷ x ∷ xs) (x ∷ xs) (x ∷ insert_key cmp xs k)) ≡ (p k && (p x && list_all p xs))) [
        | Less ↦ λ e. refl
        | Equal ↦ λ e. both_twice (p x) (list_all p xs) ∙ ap (λ y. p y && (p x && list_all p xs)) (sym (exact k x e))
        | Greater ↦ λ e. ap (λ v. p x && v) (inserted_whole xs k) ∙ both_swap (p x) (p k) (list_all p xs)
      ] refl

  pub put_whole : (sorted keys : List K) → list_all p (put_among cmp sorted keys) ≡ (list_all p sorted && list_all p keys)
  put_whole sorted [] = and_true (list_all p sorted)
    where
      and_true : (a : Bool) → a ≡ (a && true)
      and_true true = refl
      and_true false = refl
  put_whole sorted (k ∷ keys) = put_whole (insert_key cmp sorted k) keys ∙ ap (λ v. v && list_all p keys) (inserted_whole sorted k) ∙ both_assoc (p k) (list_all p sorted) (list_all p keys)

  order_whole : (keys : List K) → list_all p (in_order cmp keys) ≡ list_all p keys
  order_whole keys = put_whole [] keys

pub due_total : IsTotalOrder due_cmp
due_total = then_total (on_total (λ (k : DueKey). k.0) int_cmp_total) (on_total (λ (k : DueKey). k.1) int_cmp_total)

pub new_total : IsTotalOrder new_cmp
new_total = then_total (then_total (on_total (λ (k : NewKey). k.0) parts_total) (on_total (λ (k : NewKey). k.1) int_cmp_total)) (on_total (λ (k : NewKey). k.2) int_cmp_total)

both_equal : (a b : Ordering) → ordering_then a b ≡ Equal → (a ≡ Equal) × (b ≡ Equal)
both_equal Less b h = absurd (cc)
both_equal Equal b h = (refl, h)
both_equal Greater b h = absurd (cc)

pub due_exact : IsAntisymmetric due_cmp
due_exact x y h =
    let parts = both_equal (int_cmp x.0 y.0) (int_cmp x.1 y.1) h in
    λ i. (int_cmp-IsAntisymmetric x.0 y.0 parts.0 i, int_cmp-IsAntisymmetric x.1 y.1 parts.1 i)

pub new_exact : IsAntisymmetric new_cmp
new_exact x y h =
    let last = both_equal (ordering_then (parts_cmp x.0 y.0) (int_cmp x.1 y.1)) (int_cmp x.2 y.2) h in
    let first = both_equal (parts_cmp x.0 y.0) (int_cmp x.1 y.1) last.0 in
    λ i. (slice_cmp-IsAntisymmetric (slice_cmp-IsAntisymmetric nat_cmp-IsAntisymmetric) x.0 y.0 first.0 i, int_cmp-IsAntisymmetric x.1 y.1 first.1 i, int_cmp-IsAntisymmetric x.2 y.2 last.1 i)

pub due_ascends : (keys : List DueKey) → IsStrictlySortedBy due_cmp (in_order due_cmp keys)
due_ascends keys = order_ascends due_cmp due_total keys

pub new_ascends : (keys : List NewKey) → IsStrictlySortedBy new_cmp (in_order new_cmp keys)
new_ascends keys = order_ascends new_cmp new_total keys

pub due_whole : (p : DueKey → Bool) (keys : List DueKey) → list_all p (in_order due_cmp keys) ≡ list_all p keys
due_whole p keys = order_whole due_cmp due_exact p keys

pub new_whole : (p : NewKey → Bool) (keys : List NewKey) → list_all p (in_order new_cmp keys) ≡ list_all p keys
new_whole p keys = order_whole new_cmp new_exact p keys
