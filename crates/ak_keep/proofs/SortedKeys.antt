-- Keys that ascend are told by which of them there are.
use Rattle.std.specs.Prelude.{◌≡◌, Bool, true, false, T, cond, ◌&&◌, ◌||◌, Some, None, List, [], ◌∷◌, map}
use Rattle.std.proofs.Common.{refl, sym, ap, subst, ◌∙◌}
use Rattle.std.specs.BTreeMap.{is_at}
use Rattle.std.specs.Cmp.{IsTotalOrder}
use Rattle.std.specs.FinMap.{IsAntisymmetric, find, is_sorted}
use Rattle.std.specs.FinMap.Entries.{below_all, same_entries}
use Rattle.std.specs.List.{AllByRecursion, list_any}
use Rattle.std.specs.List.Sorted.{IsStrictlySortedBy}
use Rattle.std.specs.Ordering.{is_lt}
use Rattle.std.specs.declared.cmp.Ordering.{Ordering}
use Rattle.std.specs.declared.cmp.Ordering.TheVariants.{Less}

yes_and : (a b : Bool) → T a → T b → T (a && b)
yes_and true b h k = k
yes_and false b h k = h

module _ {K : Type 0} (cmp : K → K → Ordering) where
  -- whether the key is one of these
  abbrev pub has_of : K → List K → Bool
  has_of key keys = list_any (is_at (cmp key)) keys

  paired : List K → List (K × Unit {0})
  paired [] = []
  paired (key ∷ keys) = (key, tt) ∷ paired keys

  unpaired : (keys : List K) → map (λ (e : K × Unit {0}). e.0) (paired keys) ≡ keys
  unfolding paired
  unpaired [] = refl
  unpaired (key ∷ keys) = ap (λ xs. key ∷ xs) (unpaired keys)

  below-paired : (x : K) (keys : List K) → AllByRecursion (λ y. cmp x y ≡ Less) keys → T (below_all cmp x (paired keys))
  unfolding paired
  below-paired x [] h = tt
  below-paired x (key ∷ keys) h = subst (λ r. T (is_lt r && below_all cmp x (paired keys))) (sym h.0) (below-paired x keys h.1)

  sorted-paired : (keys : List K) → IsStrictlySortedBy cmp keys → T (is_sorted cmp (paired keys))
  unfolding paired IsStrictlySortedBy
  sorted-paired [] h = tt
  sorted-paired (key ∷ keys) h = yes_and _ _ (below-paired key keys h.0) (sorted-paired keys h.1)

  find-paired : (q : K) (keys : List K) → find cmp q (paired keys) ≡ cond (has_of q keys) (Some tt) None
  unfolding paired
  find-paired q [] = refl
  find-paired q (key ∷ keys) =
      elim (is_at (cmp q) key) as (λ b. cond b (Some tt) (find cmp q (paired keys)) ≡ cond (b || has_of q keys) (Some tt) None) [ true ↦ refl | false ↦ find-paired q keys ]

  pub same_keys : IsTotalOrder cmp → IsAntisymmetric cmp → (xs ys : List K) → IsStrictlySortedBy cmp xs → IsStrictlySortedBy cmp ys → ((q : K) → has_of q xs ≡ has_of q ys) → xs ≡ ys
  same_keys total exact xs ys g h same =
      sym (unpaired xs)
      ∙ ap (λ es. map (λ (e : K × Unit {0}). e.0) es) (same_entries cmp total exact (paired xs) (paired ys) (sorted-paired xs g) (sorted-paired ys h)
      (λ q. find-paired q xs ∙ ap (λ b. cond b (Some tt) None) (same q) ∙ sym (find-paired q ys)))
      ∙ unpaired ys
