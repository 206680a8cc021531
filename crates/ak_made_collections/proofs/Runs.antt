-- Lists of rows that are made by their numbers, one after the other.
use Rattle.std.proofs.Common.{◌≡◌, ℕ, zero, suc, ◌+◌, ◌<◌, ◌≤◌, false, List, [], ◌∷◌, ◌++◌, map, sym, ap, ◌∙◌, subst, arith}
use Rattle.std.proofs.lemmas.List.{append_assoc}
use Rattle.std.proofs.lemmas.List.FromFn.{map-range_with_len_more}
use Rattle.std.specs.List.{AllByRecursion, IsDistinct, range_with_len}
use Rattle.std.specs.Ordering.{eq_by_cmp}
use Rattle.ak_base.specs.Names.{name_cmp}
use Rattle.ak_base.specs.Rows.{name_of}
use Rattle.ak_base.specs.declared.names.Name.{Name}
use Rattle.ak_base.specs.declared.rows.Row.{Row}

-- the rows of these numbers
abbrev pub run : (ℕ → Row) → ℕ → ℕ → List Row
run make first count = map make (range_with_len first count)

-- a row is added at the end
pub one_more : (make : ℕ → Row) (number : ℕ) (front was now : List Row) (row : Row) → now ≡ was ++ row ∷ [] → row ≡ make number
    → was ≡ front ++ run make 0 number → now ≡ front ++ run make 0 (number + 1)
one_more make number front was now row pushed made so_far =
    pushed ∙ ap (λ (rows : List Row). rows ++ row ∷ []) so_far ∙ append_assoc front (run make 0 number) (row ∷ [])
    ∙ ap (λ (rows : List Row). front ++ rows) (ap (λ (last : Row). run make 0 number ++ last ∷ []) made
    ∙ sym (map-range_with_len_more make 0 number number (omega arith)))

-- ---- what holds of each
-- what holds of the row of each number holds of all rows
pub each_of : (P : Row → Type 0) (make : ℕ → Row) (first count : ℕ) → ((number : ℕ) → number < first + count → P (make number))
    → AllByRecursion P (run make first count)
each_of P make first zero each = tt
each_of P make first (suc count) each =
    (each first (omega arith), each_of P make (first + 1) count (λ number few. each number (omega (arith, few))))

pub both : (P : Row → Type 0) (one other : List Row) → AllByRecursion P one → AllByRecursion P other → AllByRecursion P (one ++ other)
both P [] other all rest = rest
both P (row ∷ one) other all rest = (all.0, both P one other all.1 rest)

-- so it does of one more
pub each_and_more : (P : Row → Type 0) (make : ℕ → Row) (number : ℕ) → AllByRecursion P (run make 0 number) → P (make number)
    → AllByRecursion P (run make 0 (number + 1))
each_and_more P make number each more =
    subst (AllByRecursion P) (sym (map-range_with_len_more make 0 number number (omega arith)))
    (both P (run make 0 number) (make number ∷ []) each (more, tt))

-- ---- names
-- these rows have another name
abbrev pub AreOthers : Name → List Row → Type 0
AreOthers name rows = AllByRecursion (λ (other : Name). eq_by_cmp name_cmp name other ≡ false) (map name_of rows)

-- no two of these rows have one name
abbrev pub HaveOwnNames : List Row → Type 0
HaveOwnNames rows = IsDistinct (eq_by_cmp name_cmp) (map name_of rows)

pub others_of : (name : Name) (make : ℕ → Row) (first count : ℕ) → ((number : ℕ) → first ≤ number → eq_by_cmp name_cmp name (name_of (make number)) ≡ false)
    → AreOthers name (run make first count)
others_of name make first zero each = tt
others_of name make first (suc count) each =
    (each first (omega arith), others_of name make (first + 1) count (λ number least. each number (omega (arith, least))))

pub run_distinct : (make : ℕ → Row) (first count : ℕ) → ((one other : ℕ) → one < other → eq_by_cmp name_cmp (name_of (make one)) (name_of (make other)) ≡ false)
    → HaveOwnNames (run make first count)
unfolding IsDistinct
run_distinct make first zero apart = tt
run_distinct make first (suc count) apart =
    (others_of (name_of (make first)) make (first + 1) count (λ number least. apart first number (omega (arith, least))), run_distinct make (first + 1) count apart)

-- none of these rows has the name of one of those
pub run_apart : (make : ℕ → Row) (first count : ℕ) (others : List Row) → ((number : ℕ) → AreOthers (name_of (make number)) others)
    → AllByRecursion (λ (row : Row). AreOthers (name_of row) others) (run make first count)
run_apart make first zero others apart = tt
run_apart make first (suc count) others apart = (apart first, run_apart make (first + 1) count others apart)

both_others : (name : Name) (one other : List Row) → AreOthers name one → AreOthers name other → AreOthers name (one ++ other)
both_others name [] other all rest = rest
both_others name (row ∷ one) other all rest = (all.0, both_others name one other all.1 rest)

pub both_distinct : (one other : List Row) → HaveOwnNames one → HaveOwnNames other → AllByRecursion (λ (row : Row). AreOthers (name_of row) other) one
    → HaveOwnNames (one ++ other)
unfolding IsDistinct
both_distinct [] other own rest apart = rest
both_distinct (row ∷ one) other own rest apart =
    (both_others (name_of row) one other own.0 apart.0, both_distinct one other own.1 rest apart.1)
