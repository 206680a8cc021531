-- A filter is applied at the place where its name first stands.
use Rattle.std.proofs.Common.{◌≡◌, ℕ, zero, suc, ◌<◌, ◌≤◌, ◌==◌, true, cond, Result, Ok, Err, List, [], ◌∷◌, length, map, get_or, refl, ap, sym, ◌∙◌, arith}
use Rattle.std.proofs.Common.{IfOk, OnOk, OnErr}
use Rattle.ak_base.specs.declared.errors.Memory.{Memory}
use Rattle.std.specs.List.{slice_set}
use Rattle.std.specs.Cmp.Lexicographic.{pointwise}
use Rattle.std.proofs.Math.ListN.{get_or-map}
use Rattle.std.proofs.lemmas.List.{length-map}
use Rattle.ak_filters.specs.Meanings.{Meaning, filtered, turned}
use Rattle.ak_filters.proofs.Dropping.{Leads}
use Rattle.ak_template.specs.declared.faces.PageFault.TheVariants.{NoFilter}
use Rattle.ak_template.specs.Pages.{Page, filter_text, applied_at, behind_filter}

-- at the end no filter has the name
pub none_named : (place : ℕ) (name text : List ℕ) (filters : List Meaning) → Leads place name filters → length filters ≤ place → filter_text name text filters ≡ (Err (NoFilter name), filters)
none_named place name text [] h l = refl
none_named zero name text (filter ∷ filters) h l = absurd (omega (arith, l))
none_named (suc place) name text (filter ∷ filters) h l = ap (λ v. cond {A = Page} v (Ok (filtered filter text), turned filter ∷ filters) (behind_filter filter (filter_text name text filters))) h.0 ∙ ap (behind_filter filter) (none_named place name text filters h.1 (omega arith))

-- at the place of the name
pub first_named : (place : ℕ) (name text made : List ℕ) (filters later : List Meaning) (d : Meaning) → Leads place name filters → place < length filters → pointwise ◌==◌ (get_or filters place d).name name ≡ true → ◌≡◌ {A = List ℕ × List Meaning} (made, later) (applied_at place text filters) → ◌≡◌ {A = Page} (filter_text name text filters) (Ok made, later)
first_named place name text made [] later d h l e a = absurd (omega (arith, l))
first_named zero name text made (filter ∷ filters) later d h l e a = ap (λ v. cond {A = Page} v (Ok (filtered filter text), turned filter ∷ filters) (behind_filter filter (filter_text name text filters))) e ∙ ap {B = Page} (λ (p : List ℕ × List Meaning). (Ok p.0, p.1)) (sym a)
first_named (suc place) name text made (filter ∷ filters) later d h l e a =
    ap (λ v. cond {A = Page} v (Ok (filtered filter text), turned filter ∷ filters) (behind_filter filter (filter_text name text filters))) h.0
    ∙ ap (behind_filter filter) (first_named place name text (applied_at place text filters).0 filters (applied_at place text filters).1 d h.1 (omega arith) e refl)
    ∙ ap {B = Page} (λ (p : List ℕ × List Meaning). (Ok p.0, p.1)) (sym a)

pub meanings_set : {X : Type 0} (meant : X → Meaning) (place : ℕ) (text : List ℕ) (xs : List X) (x d : X) → place < length xs → meant x ≡ turned (meant (get_or xs place d)) → ◌≡◌ {A = List ℕ × List Meaning} (filtered (meant (get_or xs place d)) text, map meant (slice_set xs place x)) (applied_at place text (map meant xs))
meanings_set meant place text [] x d l e = absurd (omega (arith, l))
meanings_set meant zero text (y ∷ ys) x d l e = ap {B = List ℕ × List Meaning} (λ m. (filtered (meant y) text, m ∷ map meant ys)) e
meanings_set meant (suc place) text (y ∷ ys) x d l e = ap {B = List ℕ × List Meaning} (λ (p : List ℕ × List Meaning). (p.0, meant y ∷ p.1)) (meanings_set meant place text ys x d (omega arith) e)

pub meanings_kept : {X : Type 0} (meant : X → Meaning) (place : ℕ) (xs : List X) (x d : X) → place < length xs → meant x ≡ meant (get_or xs place d) → map meant (slice_set xs place x) ≡ map meant xs
meanings_kept meant place [] x d l e = absurd (omega (arith, l))
meanings_kept meant zero (y ∷ ys) x d l e = ap (λ m. m ∷ map meant ys) e
meanings_kept meant (suc place) (y ∷ ys) x d l e = ap (λ ms. meant y ∷ ms) (meanings_kept meant place ys x d (omega arith) e)

pub at_ok : {X : Type 0} (meant : X → Meaning) (place : ℕ) (text : List ℕ) (xs : List X) (x y : X) (r : Result (List ℕ) Memory) → place < length xs → y ≡ get_or xs place y → IfOk r (λ made. made ≡ filtered (meant y) text) → OnOk r (meant x ≡ turned (meant y)) → IfOk r (λ made. ◌≡◌ {A = List ℕ × List Meaning} (made, map meant (slice_set xs place x)) (applied_at place text (map meant xs)))
at_ok meant place text xs x y (Ok made) l i t o =
    ap {B = List ℕ × List Meaning} (λ m. (m, map meant (slice_set xs place x))) (t ∙ ap (λ z. filtered (meant z) text) i)
    ∙ meanings_set meant place text xs x y l (o ∙ ap (λ z. turned (meant z)) i)
at_ok meant place text xs x y (Err fault) l i t o = tt

pub at_err : {X : Type 0} (meant : X → Meaning) (place : ℕ) (xs : List X) (x y : X) (r : Result (List ℕ) Memory) → place < length xs → y ≡ get_or xs place y → OnErr r (meant x ≡ meant y) → OnErr r (map meant (slice_set xs place x) ≡ map meant xs)
at_err meant place xs x y (Ok made) l i o = tt
at_err meant place xs x y (Err fault) l i o = meanings_kept meant place xs x y l (o ∙ ap meant i)

pub first_at : {X : Type 0} (meant : X → Meaning) (place : ℕ) (name text made : List ℕ) (xs : List X) (later : List Meaning) (x : X) → Leads place name (map meant xs) → place < length xs → x ≡ get_or xs place x → pointwise ◌==◌ (meant x).name name ≡ true → ◌≡◌ {A = List ℕ × List Meaning} (made, later) (applied_at place text (map meant xs)) → ◌≡◌ {A = Page} (filter_text name text (map meant xs)) (Ok made, later)
first_at meant place name text made xs later x h l i e a =
    first_named place name text made (map meant xs) later (meant x) h (omega (arith, l, length-map xs meant))
    (ap (λ m. pointwise ◌==◌ m.name name) (get_or-map meant xs place x ∙ ap meant (sym i)) ∙ e) a

pub none_at : {X : Type 0} (meant : X → Meaning) (place : ℕ) (name copied text : List ℕ) (xs : List X) → Leads place name (map meant xs) → length xs ≤ place → copied ≡ name → ◌≡◌ {A = Page} (filter_text name text (map meant xs)) (Err (NoFilter copied), map meant xs)
none_at meant place name copied text xs h l e = none_named place name text (map meant xs) h (omega (arith, l, length-map xs meant)) ∙ ap {B = Page} (λ n. (Err (NoFilter n), map meant xs)) (sym e)
