-- As many columns as there are to be.
use Rattle.std.proofs.Common.{Bor, ◌++◌, map, append_assoc, ◌≡◌, ℕ, zero, suc, ◌+◌, ◌-◌, ◌<◌, List, [], ◌∷◌, refl, sym, ap, ◌∙◌, get_or, drop, arith}
use Rattle.std.proofs.lemmas.List.{map-append}
use Rattle.std.specs.Prelude.{length}
use Rattle.ak_csv.specs.NoteRecords.{fitted}

no_more : (place : ℕ) → ◌≡◌ {A = List (List ℕ)} (drop place []) []
no_more zero = refl
no_more (suc place) = refl

none_at : (place : ℕ) → ◌≡◌ {A = List ℕ} (get_or [] place []) []
none_at zero = refl
none_at (suc place) = refl

fitted_front : (count : ℕ) (xs : List (List ℕ)) (place : ℕ) → fitted (suc count) (drop place xs) ≡ get_or xs place [] ∷ fitted count (drop (suc place) xs)
fitted_front count [] place = rw (no_more place, none_at place) refl
fitted_front count (x ∷ xs) zero = refl
fitted_front count (x ∷ xs) (suc place) = fitted_front count xs place

-- the column of a place comes first of those from there on
pub fitted_more : (fields place : ℕ) (xs : List (List ℕ)) → place < fields
    → fitted (fields - place) (drop place xs) ≡ get_or xs place [] ∷ fitted (fields - (place + 1)) (drop (place + 1) xs)
fitted_more fields place xs less =
    let count : fields - place ≡ suc (fields - (place + 1)) = omega arith in
    let next : place + 1 ≡ suc place = omega arith in
    rw (count, next) (fitted_front (fields - suc place) xs place)

pub fitted_whole : (xs : List (List ℕ)) → fitted (length xs) xs ≡ xs
fitted_whole [] = refl
fitted_whole (x ∷ xs) = ap (λ rest. x ∷ rest) (fitted_whole xs)

pub fitted_length : (count : ℕ) (xs : List (List ℕ)) → length (fitted count xs) ≡ count
fitted_length zero xs = refl
fitted_length (suc count) [] = ap suc (fitted_length count [])
fitted_length (suc count) (x ∷ xs) = ap suc (fitted_length count xs)

-- what a reference points to
abbrev pub now_of : Bor (List ℕ) → List ℕ
now_of text = text.now

-- one more column is the text of its place
pub columns_more : (columns more : List (Bor (List ℕ))) (column : Bor (List ℕ)) (fields place : ℕ) (xs : List (List ℕ)) (all : List (List ℕ))
    → more ≡ columns ++ (column ∷ []) → column.now ≡ get_or xs place [] → place < fields
    → map now_of columns ++ fitted (fields - place) (drop place xs) ≡ all
    → map now_of more ++ fitted (fields - (place + 1)) (drop (place + 1) xs) ≡ all
columns_more columns more column fields place xs all grown text less so_far =
    let rest = fitted (fields - (place + 1)) (drop (place + 1) xs) in
    ap (λ (cs : List (Bor (List ℕ))). map now_of cs ++ rest) grown
    ∙ ap (λ (cs : List (List ℕ)). cs ++ rest) (map-append now_of columns (column ∷ []))
    ∙ append_assoc (map now_of columns) (now_of column ∷ []) rest
    ∙ ap (λ (first : List ℕ). map now_of columns ++ (first ∷ rest)) text
    ∙ ap (λ (cs : List (List ℕ)). map now_of columns ++ cs) (sym (fitted_more fields place xs less))
    ∙ so_far
