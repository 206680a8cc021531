-- What is collected from rows that come one by one or page by page, while what is held is told.
use Rattle.std.proofs.Common.{◌≡◌, true, false, cond, List, [], ◌∷◌, ◌++◌, filter, filter_map, Option, Some, None, IfSome, Bool, refl, sym, ap, ◌∙◌, append_assoc, append-nil}
use Rattle.std.proofs.lemmas.List.Elements.{filter_map-append}
use Rattle.ak_keep.specs.Collections.{Holding, rows_past}
use Rattle.ak_keep.specs.Marks.{WithMark}
use Rattle.ak_keep.specs.Walks.{ahead}
use Rattle.ak_keep.specs.declared.walks.Walk.{Walk}
use Rattle.ak_base.specs.declared.rows.Row.{Row}

-- one more was taken
pub one_taken : {A B : Type 0} (f : List A → List B) → ((x : A) (xs : List A) → f (x ∷ xs) ≡ f (x ∷ []) ++ f xs)
    → (found more whole : List B) (x : A) (rest : List A) → found ++ f (x ∷ rest) ≡ whole → more ≡ found ++ f (x ∷ []) → more ++ f rest ≡ whole
one_taken f first found more whole x rest so_far step =
    ap (λ ys. ys ++ f rest) step ∙ append_assoc found (f (x ∷ [])) (f rest) ∙ ap (λ ys. found ++ ys) (sym (first x rest)) ∙ so_far

-- one more was taken, if it is told what is held
pub one_told : {A B : Type 0} (told : Option (WithMark Holding)) (f : Holding → List A → List B) (whole : Holding → List B) → ((h : Holding) (x : A) (xs : List A) → f h (x ∷ xs) ≡ f h (x ∷ []) ++ f h xs)
    → (found more : List B) (x : A) (rest : List A) → IfSome told (λ w. found ++ f w.current (x ∷ rest) ≡ whole w.current) → IfSome told (λ w. more ≡ found ++ f w.current (x ∷ []))
    → IfSome told (λ w. more ++ f w.current rest ≡ whole w.current)
one_told None f whole first found more x rest so_far step = tt
one_told (Some w) f whole first found more x rest so_far step = one_taken (f w.current) (first w.current) found more (whole w.current) x rest so_far step

-- nothing was taken yet
pub none_told : {A B : Type 0} (told : Option (WithMark Holding)) (f : Holding → List A → List B) (found : List B) (all : List A) → found ≡ [] → IfSome told (λ w. found ++ f w.current all ≡ f w.current all)
none_told None f found all none = tt
none_told (Some w) f found all none = ap (λ ys. ys ++ f w.current all) none

-- what comes of the first of them, and then of the others
pub filter_map-first : {A B : Type 0} (f : A → Option B) (x : A) (xs : List A) → filter_map f (x ∷ xs) ≡ filter_map f (x ∷ []) ++ filter_map f xs
filter_map-first f x xs = filter_map-append f (x ∷ []) xs

pub filter-first : {A : Type 0} (p : A → Bool) (x : A) (xs : List A) → filter p (x ∷ xs) ≡ filter p (x ∷ []) ++ filter p xs
filter-first p x xs = elim (p x) as (λ b. cond b (x ∷ filter p xs) (filter p xs) ≡ cond b (x ∷ []) [] ++ filter p xs) [ true ↦ refl | false ↦ refl ]

-- ---- pages
-- what was found, with what is ahead, is all
abbrev pub Finds : {B : Type 0} → (Row → Option B) → List B → Walk → Walk → Holding → Type 0
Finds f found start walk h = found ++ filter_map f (ahead walk h.rows) ≡ filter_map f (ahead start h.rows)

pub page_told : {B : Type 0} (told : Option (WithMark Holding)) (f : Row → Option B) (found more : List B) (start walk next : Walk) (page : List Row)
    → IfSome told (λ w. Finds f found start walk w.current) → IfSome told (λ w. ahead walk w.current.rows ≡ page ++ ahead next w.current.rows) → more ≡ found ++ filter_map f page
    → IfSome told (λ w. Finds f more start next w.current)
page_told None f found more start walk next page so_far split step = tt
page_told (Some w) f found more start walk next page so_far split step =
    ap (λ ys. ys ++ filter_map f (ahead next w.current.rows)) step
    ∙ append_assoc found (filter_map f page) (filter_map f (ahead next w.current.rows))
    ∙ ap (λ ys. found ++ ys) (sym (ap (filter_map f) split ∙ filter_map-append f page (ahead next w.current.rows)))
    ∙ so_far

pub first_page_told : {B : Type 0} (told : Option (WithMark Holding)) (f : Row → Option B) (found : List B) (start : Walk) → found ≡ [] → IfSome told (λ w. Finds f found start start w.current)
first_page_told None f found start none = tt
first_page_told (Some w) f found start none = ap (λ ys. ys ++ filter_map f (ahead start w.current.rows)) none

pub pages_told : {B : Type 0} (told : Option (WithMark Holding)) (f : Row → Option B) (found : List B) (start walk : Walk) → walk.done ≡ true → IfSome told (λ w. Finds f found start walk w.current)
    → IfSome told (λ w. found ≡ filter_map f (ahead start w.current.rows))
pages_told None f found start walk done so_far = tt
pages_told (Some w) f found start walk done so_far =
    sym (append-nil found) ∙ sym (ap (λ b. found ++ filter_map f (cond b [] (rows_past walk.past.table walk.past.id w.current.rows))) done) ∙ so_far
