-- The first filter of a name in a list.
use Rattle.std.proofs.Common.{◌≡◌, ℕ, zero, suc, ◌+◌, ◌<◌, ◌≤◌, ◌==◌, ◌||◌, true, false, cond, List, [], ◌∷◌, length, map, get_or, refl, ap, sym, ◌∙◌, arith}
use Rattle.std.specs.Prelude.{⊤}
use Rattle.std.specs.List.{remove}
use Rattle.std.specs.Cmp.Lexicographic.{pointwise}
use Rattle.std.proofs.lemmas.List.{length-map}
use Rattle.ak_filters.specs.Meanings.{Meaning}
use Rattle.ak_filters.specs.Lists.{has_filter, without_filter}

-- the filters in front of a place have other names
abbrev pub Leads : ℕ → List ℕ → List Meaning → Type 0
Leads place name [] = ⊤
Leads zero name (filter ∷ filters) = ⊤
Leads (suc place) name (filter ∷ filters) = (pointwise ◌==◌ filter.name name ≡ false) × Leads place name filters

pub leads_none : (name : List ℕ) (filters : List Meaning) → Leads 0 name filters
leads_none name [] = tt
leads_none name (filter ∷ filters) = tt

leads_suc : {X : Type 0} (meant : X → Meaning) (place : ℕ) (name : List ℕ) (xs : List X) (d : X) → Leads place name (map meant xs) → place < length xs → pointwise ◌==◌ (meant (get_or xs place d)).name name ≡ false → Leads (suc place) name (map meant xs)
leads_suc meant place name [] d h l e = tt
leads_suc meant zero name (x ∷ xs) d h l e = (e, leads_none name (map meant xs))
leads_suc meant (suc place) name (x ∷ xs) d h l e = (h.0, leads_suc meant place name xs d h.1 (omega arith) e)

pub leads_past : {X : Type 0} (meant : X → Meaning) (place : ℕ) (name : List ℕ) (xs : List X) (x : X) → Leads place name (map meant xs) → place < length xs → x ≡ get_or xs place x → pointwise ◌==◌ (meant x).name name ≡ false → Leads (place + 1) name (map meant xs)
leads_past meant place name xs x h l i e = let next : place + 1 ≡ suc place = omega arith in rw next (leads_suc meant place name xs x h l (ap (λ z. pointwise ◌==◌ (meant z).name name) (sym i) ∙ e))

without_at : {X : Type 0} (meant : X → Meaning) (place : ℕ) (name : List ℕ) (xs : List X) (d : X) → Leads place name (map meant xs) → place < length xs → pointwise ◌==◌ (meant (get_or xs place d)).name name ≡ true → map meant (remove xs place) ≡ without_filter name (map meant xs)
without_at meant place name [] d h l e = absurd (omega (arith, l))
without_at meant zero name (x ∷ xs) d h l e = sym (ap (λ v. cond v (map meant xs) (meant x ∷ without_filter name (map meant xs))) e)
without_at meant (suc place) name (x ∷ xs) d h l e =
    ap (λ ms. meant x ∷ ms) (without_at meant place name xs d h.1 (omega arith) e)
    ∙ sym (ap (λ v. cond v (map meant xs) (meant x ∷ without_filter name (map meant xs))) h.0)

pub dropped_at : {X : Type 0} (meant : X → Meaning) (place : ℕ) (name : List ℕ) (xs : List X) (x : X) → Leads place name (map meant xs) → place < length xs → x ≡ get_or xs place x → pointwise ◌==◌ (meant x).name name ≡ true → map meant (remove xs place) ≡ without_filter name (map meant xs)
dropped_at meant place name xs x h l i e = without_at meant place name xs x h l (ap (λ z. pointwise ◌==◌ (meant z).name name) (sym i) ∙ e)

or_true : (v : _) → (v || true) ≡ true
or_true true = refl
or_true false = refl

has_at : {X : Type 0} (meant : X → Meaning) (place : ℕ) (name : List ℕ) (xs : List X) (d : X) → place < length xs → pointwise ◌==◌ (meant (get_or xs place d)).name name ≡ true → has_filter name (map meant xs) ≡ true
has_at meant place name [] d l e = absurd (omega (arith, l))
has_at meant zero name (x ∷ xs) d l e = ap (λ v. v || has_filter name (map meant xs)) e
has_at meant (suc place) name (x ∷ xs) d l e = ap (λ v. pointwise ◌==◌ (meant x).name name || v) (has_at meant place name xs d (omega arith) e) ∙ or_true (pointwise ◌==◌ (meant x).name name)

pub held_at : {X : Type 0} (meant : X → Meaning) (place : ℕ) (name : List ℕ) (xs : List X) (x : X) → place < length xs → x ≡ get_or xs place x → pointwise ◌==◌ (meant x).name name ≡ true → has_filter name (map meant xs) ≡ true
held_at meant place name xs x l i e = has_at meant place name xs x l (ap (λ z. pointwise ◌==◌ (meant z).name name) (sym i) ∙ e)

none_held : (place : ℕ) (name : List ℕ) (filters : List Meaning) → Leads place name filters → length filters ≤ place → (without_filter name filters ≡ filters) × (has_filter name filters ≡ false)
none_held place name [] h l = (refl, refl)
none_held zero name (filter ∷ filters) h l = absurd (omega (arith, l))
none_held (suc place) name (filter ∷ filters) h l =
    let later = none_held place name filters h.1 (omega arith) in
    (ap (λ v. cond v filters (filter ∷ without_filter name filters)) h.0 ∙ ap (λ fs. filter ∷ fs) later.0, ap (λ v. v || has_filter name filters) h.0 ∙ later.1)

-- the list as it was before the loop, of which no filter has the name
pub not_held : {X : Type 0} (meant : X → Meaning) (place : ℕ) (name : List ℕ) (xs : List X) (old : List Meaning) → Leads place name (map meant xs) → length xs ≤ place → map meant xs ≡ old → (map meant xs ≡ without_filter name old) × (false ≡ has_filter name old)
not_held meant place name xs old h l e =
    let none = none_held place name (map meant xs) h (omega (arith, l, length-map xs meant)) in
    (sym none.0 ∙ ap (without_filter name) e, sym none.1 ∙ ap (has_filter name) e)
