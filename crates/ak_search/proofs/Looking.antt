-- The template at a place, and the fields that a note lacks.
use Rattle.std.proofs.Common.{◌≡◌, ◌≤◌, ◌<◌, ℕ, zero, suc, length, true, false, ℤ, pos, negsuc, int_lt, unsigned_abs, slice_get, None, List, [], ◌∷◌, ◌++◌, map, refl, ap, sym, subst, ◌∙◌, arith}
use Rattle.std.proofs.lemmas.List.{length-map, map-append}
use Rattle.ak_base.specs.declared.note_types.CardTemplate.{CardTemplate}
use Rattle.ak_search.specs.CardFacts.{filled, template_at}

-- ---- the template at a place
pub template_there : (templates : List CardTemplate) (place : ℤ) → int_lt place (pos 0) ≡ false → template_at templates place ≡ slice_get templates (unsigned_abs place)
template_there templates (pos n) h = refl
template_there templates (negsuc n) h = grind (arith, h)

pub no_template : (templates : List CardTemplate) (place : ℤ) → int_lt place (pos 0) ≡ true → template_at templates place ≡ None
no_template templates (pos n) h = grind (arith, h)
no_template templates (negsuc n) h = refl

-- ---- fields that a note lacks
full : (count : ℕ) (texts : List (List ℕ)) → count ≤ length texts → filled count texts ≡ texts
full zero texts h = refl
full (suc count) [] h = absurd (omega (arith, h))
full (suc count) (text ∷ texts) h = ap (λ more. text ∷ more) (full count texts (omega (arith, h)))

one_more : (count : ℕ) (texts : List (List ℕ)) → length texts < count → filled count (texts ++ ([] ∷ [])) ≡ filled count texts
one_more zero texts h = absurd (omega (arith, h))
one_more (suc count) [] h = refl
one_more (suc count) (text ∷ texts) h = ap (λ more. text ∷ more) (one_more count texts (omega (arith, h)))

-- one more empty text was added
pub fills : {A : Type 0} (now : A → List ℕ) (count : ℕ) (texts more : List A) (text : A) (stored : List (List ℕ)) → now text ≡ [] → more ≡ texts ++ (text ∷ []) → length texts < count
    → filled count (map now texts) ≡ stored → filled count (map now more) ≡ stored
fills now count texts more text stored empty is h so_far =
    ap (λ xs. filled count (map now xs)) is
    ∙ ap (filled count) (map-append now texts (text ∷ []))
    ∙ ap (λ bytes. filled count (map now texts ++ (bytes ∷ []))) empty
    ∙ one_more count (map now texts) (subst (λ n. n < count) (sym (length-map texts now)) h)
    ∙ so_far

-- no text lacks any more
pub filled_up : {A : Type 0} (now : A → List ℕ) (count : ℕ) (texts : List A) (stored : List (List ℕ)) → count ≤ length texts
    → filled count (map now texts) ≡ stored → map now texts ≡ stored
filled_up now count texts stored h so_far = sym (full count (map now texts) (subst (λ n. count ≤ n) (sym (length-map texts now)) h)) ∙ so_far
