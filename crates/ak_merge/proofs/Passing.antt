-- Walks over the rows of two collections, page by page, that look for a conflict.
use Rattle.ak_keep.specs.Marks.{WithMark}
use Rattle.ak_keep.proofs.Told.{where_told-map}
use Rattle.ak_base.specs.Tables.{all_tables}
use Rattle.std.specs.Prelude.{◌≡◌, ℕ, zero, suc, ◌+◌, ◌<◌, pos, drop, get_or, Bool, true, false, cond, List, [], ◌∷◌, ◌++◌, find, Option, Some, None, IfSome}
use Rattle.std.proofs.Common.{refl, sym, ap, ◌∙◌, arith}
use Rattle.std.specs.Option.{option_map, option_or}
use Rattle.ak_base.specs.Rows.{name_of}
use Rattle.ak_base.specs.declared.names.Name.{Name}
use Rattle.ak_base.specs.declared.names.Table.{Table}
use Rattle.ak_base.specs.declared.names.Table.TheVariants as tables
use Rattle.ak_base.specs.declared.rows.Row.{Row}
use Rattle.ak_keep.specs.Collections.{Holding, Rows, rows_past}
use Rattle.ak_keep.specs.Keepers.{Keeping, WhereTold}
use Rattle.ak_keep.specs.Walks.{ahead}
use Rattle.ak_keep.specs.declared.walks.Walk.{Walk}
use Rattle.ak_merge.specs.Conflicts.{first_conflict, first_conflict_in, first_conflict_of, has_conflict}

find-append : {A : Type 0} (p : A → Bool) (xs ys : List A) → find p (xs ++ ys) ≡ option_or (find p xs) (find p ys)
find-append p [] ys = refl
find-append p (x ∷ xs) ys =
    elim (p x) as (λ b. cond b (Some x) (find p (xs ++ ys)) ≡ option_or (cond b (Some x) (find p xs)) (find p ys)) [ true ↦ refl | false ↦ find-append p xs ys ]

-- one that is found on a page is the first of all that is ahead
found : (p : Row → Bool) (page rest all whole : List Row) (name : Name) → find p all ≡ find p whole → all ≡ page ++ rest
    → Some name ≡ option_map name_of (find p page) → Some name ≡ option_map name_of (find p whole)
found p page rest all whole name same is first =
    first_here (find p page) (find p rest) first ∙ ap (option_map name_of) (sym (find-append p page rest) ∙ ap (find p) (sym is) ∙ same)
  where
    first_here : (one other : Option Row) → Some name ≡ option_map name_of one → Some name ≡ option_map name_of (option_or one other)
    first_here None other is = cc
    first_here (Some x) other is = is

-- where none is found on a page, the first is behind it
passed : (p : Row → Bool) (page rest all whole : List Row) → find p all ≡ find p whole → all ≡ page ++ rest
    → None ≡ option_map name_of (find p page) → find p rest ≡ find p whole
passed p page rest all whole same is none =
    behind (find p page) (find p rest) none ∙ sym (find-append p page rest) ∙ ap (find p) (sym is) ∙ same
  where
    behind : (one other : Option Row) → None ≡ option_map name_of one → other ≡ option_or one other
    behind None other is = refl
    behind (Some x) other is = cc

-- ---- where a keeper tells
pub told_three : (k : Keeping) (P Q R S : Holding → Type 0) → ((h : Holding) → P h → Q h → R h → S h) → WhereTold k P → WhereTold k Q → WhereTold k R → WhereTold k S
told_three k P Q R S so =
    elim k.told as (λ (o : Option (WithMark Holding)). IfSome o (λ w. P w.current) → IfSome o (λ w. Q w.current) → IfSome o (λ w. R w.current) → IfSome o (λ w. S w.current)) [
      | None ↦ λ _ _ _. tt
      | Some w ↦ so w.current
    ]

-- ---- where two keepers tell
-- the first row ahead that is in doubt is the first of the table
abbrev pub HaveAgreed : Table → Walk → Rows → Rows → Type 0
HaveAgreed table walk a b = find (has_conflict b) (ahead walk a) ≡ find (has_conflict b) (rows_past table (pos 0) a)

both_told : (k m : Keeping) (P Q R S : Holding → Holding → Type 0) → ((c d : Holding) → P c d → Q c d → R c d → S c d)
    → WhereTold k (λ c. WhereTold m (P c)) → WhereTold k (λ c. WhereTold m (Q c)) → WhereTold k (λ c. WhereTold m (R c)) → WhereTold k (λ c. WhereTold m (S c))
both_told k m P Q R S so =
    told_three k (λ c. WhereTold m (P c)) (λ c. WhereTold m (Q c)) (λ c. WhereTold m (R c)) (λ c. WhereTold m (S c)) (λ c. told_three m (P c) (Q c) (R c) (S c) (so c))

told_one : (k m : Keeping) (P : Holding → Type 0) → WhereTold k P → WhereTold k (λ c. WhereTold m (λ d. P c))
told_one k m P = where_told-map k P _ (λ c is. elim m.told as (λ (o : Option (WithMark Holding)). IfSome o (λ w. P c)) [ None ↦ tt | Some w ↦ is ])

told_other : (k m : Keeping) (P : Holding → Type 0) → WhereTold m P → WhereTold k (λ c. WhereTold m P)
told_other k m P is = elim k.told as (λ (o : Option (WithMark Holding)). IfSome o (λ w. WhereTold m P)) [ None ↦ tt | Some w ↦ is ]

pub conflict_found : (k m : Keeping) (table : Table) (walk next : Walk) (page : List Row) (name : Name)
    → WhereTold k (λ c. WhereTold m (λ d. HaveAgreed table walk c.rows d.rows)) → WhereTold k (λ c. ahead walk c.rows ≡ page ++ ahead next c.rows)
    → WhereTold m (λ d. Some name ≡ option_map name_of (find (has_conflict d.rows) page)) → WhereTold k (λ c. WhereTold m (λ d. Some name ≡ first_conflict_in table c.rows d.rows))
conflict_found k m table walk next page name same is first = both_told k m (λ c d. HaveAgreed table walk c.rows d.rows) (λ c d. ahead walk c.rows ≡ page ++ ahead next c.rows)
    (λ c d. Some name ≡ option_map name_of (find (has_conflict d.rows) page)) (λ c d. Some name ≡ first_conflict_in table c.rows d.rows)
    (λ c d same is first. found (has_conflict d.rows) page (ahead next c.rows) (ahead walk c.rows) (rows_past table (pos 0) c.rows) name same is first)
    same (told_one k m (λ c. ahead walk c.rows ≡ page ++ ahead next c.rows) is) (told_other k m (λ d. Some name ≡ option_map name_of (find (has_conflict d.rows) page)) first)

pub conflict_passed : (k m : Keeping) (table : Table) (walk next : Walk) (page : List Row)
    → WhereTold k (λ c. WhereTold m (λ d. HaveAgreed table walk c.rows d.rows)) → WhereTold k (λ c. ahead walk c.rows ≡ page ++ ahead next c.rows)
    → WhereTold m (λ d. None ≡ option_map name_of (find (has_conflict d.rows) page)) → WhereTold k (λ c. WhereTold m (λ d. HaveAgreed table next c.rows d.rows))
conflict_passed k m table walk next page same is none = both_told k m (λ c d. HaveAgreed table walk c.rows d.rows) (λ c d. ahead walk c.rows ≡ page ++ ahead next c.rows)
    (λ c d. None ≡ option_map name_of (find (has_conflict d.rows) page)) (λ c d. HaveAgreed table next c.rows d.rows)
    (λ c d same is none. passed (has_conflict d.rows) page (ahead next c.rows) (ahead walk c.rows) (rows_past table (pos 0) c.rows) same is none)
    same (told_one k m (λ c. ahead walk c.rows ≡ page ++ ahead next c.rows) is) (told_other k m (λ d. None ≡ option_map name_of (find (has_conflict d.rows) page)) none)

-- ---- over the tables, in their order
next_table : (n : ℕ) (a b : Rows) → n < 9 → first_conflict_of (drop n all_tables) a b ≡ option_or (first_conflict_in (get_or all_tables n tables.Note) a b) (first_conflict_of (drop (suc n) all_tables) a b)
next_table zero a b h = refl
next_table (suc zero) a b h = refl
next_table (suc (suc zero)) a b h = refl
next_table (suc (suc (suc zero))) a b h = refl
next_table (suc (suc (suc (suc zero)))) a b h = refl
next_table (suc (suc (suc (suc (suc zero))))) a b h = refl
next_table (suc (suc (suc (suc (suc (suc zero)))))) a b h = refl
next_table (suc (suc (suc (suc (suc (suc (suc zero))))))) a b h = refl
next_table (suc (suc (suc (suc (suc (suc (suc (suc zero)))))))) a b h = refl
next_table (suc (suc (suc (suc (suc (suc (suc (suc (suc n))))))))) a b h = absurd (omega (arith, h))

one_more : (n : ℕ) → n + 1 ≡ suc n
one_more n = omega arith

-- what is left of the tables holds the first of all
abbrev pub IsLeft : ℕ → Rows → Rows → Type 0
IsLeft n a b = first_conflict_of (drop n all_tables) a b ≡ first_conflict a b

pub conflict_ends : (k m : Keeping) (n : ℕ) (name : Name) → n < 9 → WhereTold k (λ c. WhereTold m (λ d. IsLeft n c.rows d.rows))
    → WhereTold k (λ c. WhereTold m (λ d. Some name ≡ first_conflict_in (get_or all_tables n tables.Note) c.rows d.rows)) → WhereTold k (λ c. WhereTold m (λ d. Some name ≡ first_conflict c.rows d.rows))
conflict_ends k m n name small left first = both_told k m (λ c d. IsLeft n c.rows d.rows) (λ c d. Some name ≡ first_conflict_in (get_or all_tables n tables.Note) c.rows d.rows)
    (λ c d. IsLeft n c.rows d.rows) (λ c d. Some name ≡ first_conflict c.rows d.rows)
    (λ c d left first _. ap (λ o. option_or o (first_conflict_of (drop (suc n) all_tables) c.rows d.rows)) first ∙ sym (next_table n c.rows d.rows small) ∙ left) left first left

pub conflict_goes_on : (k m : Keeping) (n : ℕ) → n < 9 → WhereTold k (λ c. WhereTold m (λ d. IsLeft n c.rows d.rows))
    → WhereTold k (λ c. WhereTold m (λ d. None ≡ first_conflict_in (get_or all_tables n tables.Note) c.rows d.rows)) → WhereTold k (λ c. WhereTold m (λ d. IsLeft (n + 1) c.rows d.rows))
conflict_goes_on k m n small left none = both_told k m (λ c d. IsLeft n c.rows d.rows) (λ c d. None ≡ first_conflict_in (get_or all_tables n tables.Note) c.rows d.rows)
    (λ c d. IsLeft n c.rows d.rows) (λ c d. IsLeft (n + 1) c.rows d.rows)
    (λ c d left none _. ap (λ i. first_conflict_of (drop i all_tables) c.rows d.rows) (one_more n) ∙ ap (λ o. option_or o (first_conflict_of (drop (suc n) all_tables) c.rows d.rows)) none ∙ sym (next_table n c.rows d.rows small) ∙ left) left none left
