-- One pass over the cards: what was found, and that it ascends.
use Rattle.std.proofs.Common.{◌≡◌, true, false, cond, Bool, ℤ, pos, int_lt, List, [], ◌∷◌, ◌++◌, map, filter, refl, ap, sym, subst, ◌∙◌, append_assoc, append-nil}
use Rattle.std.specs.List.{AllByRecursion}
use Rattle.std.specs.List.Sorted.{IsStrictlySortedBy}
use Rattle.std.specs.Ordering.{int_cmp}
use Rattle.std.specs.declared.cmp.Ordering.TheVariants.{Less}
use Rattle.std.specs.Cmp.{second_so}
use Rattle.ak_base.specs.Rows.{name_of}
use Rattle.ak_base.specs.declared.days.Day.{Day}
use Rattle.ak_base.specs.declared.names.Table.TheVariants as tables
use Rattle.ak_base.specs.declared.rows.Row.{Row}
use Rattle.ak_keep.specs.Collections.{Rows, is_past}
use Rattle.ak_keep.proofs.Paging.{compared_less, int_chain}
use Rattle.ak_search.specs.Holds.{is_hit, ids_of_hits}
use Rattle.ak_search.specs.Passes.{AscendFrom, TakesFrom}
use Rattle.ak_search.specs.declared.terms.Term.{Term}

-- ---- the ids of hits, row by row
ids_first : (asks : (Term → Bool) → Bool) (held : Rows) (day : Day) (row : Row) (rest : List Row) → ids_of_hits asks held day (row ∷ rest) ≡ ids_of_hits asks held day (row ∷ []) ++ ids_of_hits asks held day rest
ids_first asks held day row rest =
    elim (is_hit asks held day row) as (λ b. map (λ (r : Row). (name_of r).id) (cond b (row ∷ filter (is_hit asks held day) rest) (filter (is_hit asks held day) rest)) ≡ map (λ (r : Row). (name_of r).id) (cond b (row ∷ []) []) ++ ids_of_hits asks held day rest) [ true ↦ refl | false ↦ refl ]

pub ids_append : (asks : (Term → Bool) → Bool) (held : Rows) (day : Day) (front rest : List Row) → ids_of_hits asks held day (front ++ rest) ≡ ids_of_hits asks held day front ++ ids_of_hits asks held day rest
ids_append asks held day [] rest = refl
ids_append asks held day (row ∷ front) rest =
    ids_first asks held day row (front ++ rest)
    ∙ ap (λ ids. ids_of_hits asks held day (row ∷ []) ++ ids) (ids_append asks held day front rest)
    ∙ sym (append_assoc (ids_of_hits asks held day (row ∷ [])) (ids_of_hits asks held day front) (ids_of_hits asks held day rest))
    ∙ ap (λ ids. ids ++ ids_of_hits asks held day rest) (sym (ids_first asks held day row front))

-- one more row was taken
pub row_taken : (asks : (Term → Bool) → Bool) (held : Rows) (day : Day) (whole found more : List ℤ) (row : Row) (rest : List Row)
    → whole ≡ found ++ ids_of_hits asks held day (row ∷ rest) → more ≡ found ++ ids_of_hits asks held day (row ∷ []) → whole ≡ more ++ ids_of_hits asks held day rest
row_taken asks held day whole found more row rest is taken =
    is ∙ ap (λ ids. found ++ ids) (ids_first asks held day row rest)
    ∙ sym (append_assoc found (ids_of_hits asks held day (row ∷ [])) (ids_of_hits asks held day rest))
    ∙ ap (λ ids. ids ++ ids_of_hits asks held day rest) (sym taken)

-- one more page was taken
pub page_taken : (asks : (Term → Bool) → Bool) (held : Rows) (day : Day) (whole found more : List ℤ) (all page rest : List Row)
    → whole ≡ found ++ ids_of_hits asks held day all → all ≡ page ++ rest → more ≡ found ++ ids_of_hits asks held day page → whole ≡ more ++ ids_of_hits asks held day rest
page_taken asks held day whole found more all page rest is split taken =
    is ∙ ap (λ rows. found ++ ids_of_hits asks held day rows) split ∙ ap (λ ids. found ++ ids) (ids_append asks held day page rest)
    ∙ sym (append_assoc found (ids_of_hits asks held day page) (ids_of_hits asks held day rest))
    ∙ ap (λ ids. ids ++ ids_of_hits asks held day rest) (sym taken)

-- ---- ids ascend
pub from_lower : (low past : ℤ) (ids : List ℤ) → int_lt low past ≡ true → AscendFrom past ids → AscendFrom low ids
from_lower low past [] h a = tt
from_lower low past (id ∷ ids) h a = (int_chain low past id h a.0, a.1)

over_all : (past : ℤ) (ids : List ℤ) → AscendFrom past ids → AllByRecursion (λ id. int_cmp past id ≡ Less) ids
over_all past [] a = tt
over_all past (id ∷ ids) a = (compared_less past id a.0, over_all past ids (from_lower past id ids a.0 a.1))

pub sorted : (past : ℤ) (ids : List ℤ) → AscendFrom past ids → IsStrictlySortedBy int_cmp ids
unfolding IsStrictlySortedBy
sorted past [] a = tt
sorted past (id ∷ ids) a = (over_all id ids a.1, sorted id ids a.1)

pub taken_sorted : (past : ℤ) (found : List ℤ) → TakesFrom found past → IsStrictlySortedBy int_cmp found
taken_sorted past found h = subst (IsStrictlySortedBy int_cmp) (append-nil found) (sorted (pos 0) (found ++ []) (h [] tt))

-- a row that is passed over, and one whose id is found
pub row_passed : (past : ℤ) (row : Row) (found : List ℤ) → is_past tables.Card past (name_of row) ≡ true → TakesFrom found past → TakesFrom found (name_of row).id
row_passed past row found h takes = λ ids a. takes ids (from_lower past (name_of row).id ids (second_so _ _ h) a)

pub row_found : (past : ℤ) (row : Row) (found : List ℤ) → is_past tables.Card past (name_of row) ≡ true → TakesFrom found past → TakesFrom (found ++ ((name_of row).id ∷ [])) (name_of row).id
row_found past row found h takes = λ ids a. subst (AscendFrom (pos 0)) (sym (append_assoc found ((name_of row).id ∷ []) ids)) (takes ((name_of row).id ∷ ids) (second_so _ _ h, a))

-- before any id was found
pub takes_first : (found : List ℤ) (past : ℤ) → found ≡ [] → past ≡ pos 0 → TakesFrom found past
takes_first found past none is = λ ids a. subst (λ (front : List ℤ). AscendFrom (pos 0) (front ++ ids)) (sym none) (subst (λ id. AscendFrom id ids) is a)

pub none_sorted : (found : List ℤ) → found ≡ [] → IsStrictlySortedBy int_cmp found
none_sorted found none = subst (IsStrictlySortedBy int_cmp) (sym none) (sorted (pos 0) [] tt)
