-- A page leaves the filters as they become when some more of them are applied.
use Rattle.std.proofs.Common.{◌≡◌, ℕ, zero, suc, ◌+◌, ◌<◌, ◌≤◌, ◌==◌, true, false, cond, Option, Some, None, Ok, Err, List, [], ◌∷◌, ◌++◌, length, drop, get_or, refl, ap, sym, subst, ◌∙◌, arith}
use Rattle.std.specs.Cmp.Lexicographic.{pointwise}
use Rattle.std.proofs.lemmas.List.{drop_more}
use Rattle.ak_filters.specs.Meanings.{Meaning, filtered, turned}
use Rattle.ak_template.specs.declared.faces.Face.{Face}
use Rattle.ak_template.specs.declared.faces.PageFault.{PageFault}
use Rattle.ak_template.specs.declared.faces.PageFault.TheVariants as faults
use Rattle.ak_template.specs.declared.steps.Step.{Step}
use Rattle.ak_template.specs.declared.steps.Step.TheVariants.{Words, Field, Open, Close}
use Rattle.ak_template.specs.Pages.{Page, prefixed, followed, passed, behind_filter, filter_text, chain_text, looked_up, inner_text, tag_text, value_text, field_text, field_value, open_page, step_page, hidden_after, walk, turned_named, turned_in_order, IsOnward}
use Rattle.ak_template.proofs.Turning.{turned_on}

-- ---- of each page, from the filters that it begins with

prefixed_keeps : (text : List ℕ) (p : Page) → (prefixed text p).1 ≡ p.1
prefixed_keeps text (Ok more, filters) = refl
prefixed_keeps text (Err fault, filters) = refl

prefixed_onward : (text : List ℕ) (filters : List Meaning) (p : Page) → IsOnward filters p → IsOnward filters (prefixed text p)
prefixed_onward text filters p h = (h.0, prefixed_keeps text p ∙ h.1)

on_from : (filters between : List Meaning) (p : Page) (names : List (List ℕ)) → between ≡ turned_in_order names filters → IsOnward between p → IsOnward filters p
on_from filters between p names e h = (names ++ h.0, h.1 ∙ ap (turned_in_order h.0) e ∙ sym (turned_on names h.0 filters))

followed_onward : (filters : List Meaning) (p : Page) (next : List Meaning → Page) → IsOnward filters p → ((later : List Meaning) → IsOnward later (next later)) → IsOnward filters (followed p next)
followed_onward filters (Ok text, later) next h k = on_from filters later (prefixed text (next later)) h.0 h.1 (prefixed_onward text later (next later) (k later))
followed_onward filters (Err fault, later) next h k = h

passed_onward : (filters : List Meaning) (p : Page) (next : List ℕ → List Meaning → Page) → IsOnward filters p → ((text : List ℕ) (later : List Meaning) → IsOnward later (next text later)) → IsOnward filters (passed p next)
passed_onward filters (Ok text, later) next h k = on_from filters later (next text later) h.0 h.1 (k text later)
passed_onward filters (Err fault, later) next h k = h

filter_turns : (name text : List ℕ) (filters : List Meaning) → (filter_text name text filters).1 ≡ turned_named name filters
filter_turns name text [] = refl
filter_turns name text (filter ∷ filters) =
    elim (pointwise ◌==◌ filter.name name) as (λ v. (cond {A = Page} v (Ok (filtered filter text), turned filter ∷ filters) (behind_filter filter (filter_text name text filters))).1 ≡ cond v (turned filter ∷ filters) (filter ∷ turned_named name filters)) [
      | true ↦ refl
      | false ↦ ap (λ fs. filter ∷ fs) (filter_turns name text filters)
    ]

filter_onward : (name text : List ℕ) (filters : List Meaning) → IsOnward filters (filter_text name text filters)
filter_onward name text filters = (name ∷ [], filter_turns name text filters)

pub chain_onward : (names : List (List ℕ)) (text : List ℕ) (filters : List Meaning) → IsOnward filters (chain_text names text filters)
chain_onward [] text filters = ([], refl)
chain_onward (name ∷ names) text filters = passed_onward filters (chain_text names text filters) (filter_text name) (chain_onward names text filters) (filter_onward name)

pub tag_onward : (face : Face) (names : List (List ℕ)) (text : List ℕ) (filters : List Meaning) → IsOnward filters (tag_text face names text filters)
tag_onward face names text filters = chain_onward (looked_up names) (inner_text face names text) filters

value_onward : (value : Option (List ℕ)) (face : Face) (names : List (List ℕ)) (name : List ℕ) (filters : List Meaning) → IsOnward filters (value_text value face names name filters)
value_onward None face names name filters = ([], refl)
value_onward (Some value) face names name filters = tag_onward face names value filters

open_onward : (value : Option (List ℕ)) (name : List ℕ) (filters : List Meaning) → IsOnward filters (open_page value name filters)
open_onward None name filters = ([], refl)
open_onward (Some value) name filters = ([], refl)

pub field_onward : (face : Face) (names : List (List ℕ)) (name : List ℕ) (filters : List Meaning) → IsOnward filters (field_text face names name filters)
field_onward face names name filters = value_onward (field_value face name) face names name filters

pub text_onward : (face : Face) (names : List (List ℕ)) (text : List ℕ) (filters : List Meaning) → IsOnward filters (tag_text face names text filters)
text_onward = tag_onward

pub step_onward : (face : Face) (hidden : ℕ) (step : Step) (filters : List Meaning) → IsOnward filters (step_page face hidden step filters)
step_onward face zero (Words words) filters = ([], refl)
step_onward face zero (Field names name) filters = field_onward face names name filters
step_onward face zero (Open inverted name) filters = open_onward (field_value face name) name filters
step_onward face zero (Close name) filters = ([], refl)
step_onward face (suc hidden) step filters = ([], refl)

walk_onward : (face : Face) (hidden : ℕ) (steps : List Step) (filters : List Meaning) → IsOnward filters (walk face hidden steps filters)
walk_onward face hidden [] filters = ([], refl)
walk_onward face hidden (step ∷ steps) filters = followed_onward filters (step_page face hidden step filters) (walk face (hidden_after face hidden step) steps) (step_onward face hidden step filters) (walk_onward face (hidden_after face hidden step) steps)

-- ---- where a call stops

-- a page that was made leaves the filters of its answer
pub made_onward : (made : List ℕ) (later : List Meaning) (p : Page) → p ≡ (Ok made, later) → IsOnward later p
made_onward made later p e = ([], ap (λ (q : Page). q.1) e)

-- the value of the field is known
pub value_known : (face : Face) (names given : List (List ℕ)) (name value : List ℕ) (filters later : List Meaning) → field_value face name ≡ Some value → IsOnward later (tag_text face names value filters) → IsOnward later (field_text face names name filters)
value_known face names given name value filters later e h =
    let P : Option (List ℕ) → Type 0 = λ v. IsOnward later (value_text v face names name filters) in subst P (sym e) h

-- in a chain, before the next of its filters
pub chain_stopped : (names : List (List ℕ)) (text : List ℕ) (fault was : PageFault) (filters later : List Meaning) (whole : Page) → chain_text names text filters ≡ whole → fault ≡ was → (was ≡ faults.Memory → later ≡ filters) → fault ≡ faults.Memory → IsOnward later whole
chain_stopped names text fault was filters later whole w f kept m =
    let P : List Meaning → Type 0 = λ fs. IsOnward fs whole in
    let Q : Page → Type 0 = λ p. IsOnward filters p in
    subst P (sym (kept (sym f ∙ m))) (subst Q w (chain_onward names text filters))

-- in a step that is the tag of a field
pub field_stopped : (face : Face) (hidden : ℕ) (step : Step) (names given : List (List ℕ)) (name called : List ℕ) (filters later : List Meaning) → hidden ≤ 0 → step ≡ Field names name → given ≡ names → called ≡ name → IsOnward later (field_text face given called filters) → IsOnward later (step_page face hidden step filters)
field_stopped face hidden step names given name called filters later few s g n h =
    let z : hidden ≡ 0 = omega (arith, few) in
    let same : field_text face given called filters ≡ step_page face hidden step filters =
    ap (λ ns. field_text face ns called filters) g ∙ ap (λ n. field_text face names n filters) n
    ∙ sym (ap (λ (s : Step). step_page face 0 s filters) s) ∙ sym (ap (λ h. step_page face h step filters) z) in
    let P : Page → Type 0 = λ p. IsOnward later p in subst P same h

-- after a step that is the tag of a field
pub field_passed : (face : Face) (hidden : ℕ) (step : Step) (names given : List (List ℕ)) (name called text : List ℕ) (filters later : List Meaning) → hidden ≤ 0 → step ≡ Field names name → given ≡ names → called ≡ name → field_text face given called filters ≡ (Ok text, later) → IsOnward later (step_page face hidden step filters)
field_passed face hidden step names given name called text filters later few s g n o =
    field_stopped face hidden step names given name called filters later few s g n (made_onward text later (field_text face given called filters) o)

-- between the steps
pub steps_stopped : (face : Face) (hidden : ℕ) (steps : List Step) (made : List ℕ) (filters : List Meaning) (whole : Page) → prefixed made (walk face hidden steps filters) ≡ whole → IsOnward filters whole
steps_stopped face hidden steps made filters whole w =
    let P : Page → Type 0 = λ p. IsOnward filters p in subst P w (prefixed_onward made filters (walk face hidden steps filters) (walk_onward face hidden steps filters))

-- in a step
pub step_stopped : (face : Face) (hidden : ℕ) (steps : List Step) (place : ℕ) (step : Step) (made : List ℕ) (fault was : PageFault) (filters later : List Meaning) (whole : Page) → place < length steps → step ≡ get_or steps place step → prefixed made (walk face hidden (drop place steps) filters) ≡ whole → fault ≡ was → (was ≡ faults.Memory → IsOnward later (step_page face hidden step filters)) → fault ≡ faults.Memory → IsOnward later whole
step_stopped face hidden steps place step made fault was filters later whole l i w f h m =
    let parts : drop place steps ≡ step ∷ drop (place + 1) steps = drop_more steps place step l ∙ ap (λ (s : Step). s ∷ drop (place + 1) steps) (sym i) in
    let P : Page → Type 0 = λ p. IsOnward later p in
    let Q : List Step → Type 0 = λ xs. IsOnward later (prefixed made (walk face hidden xs filters)) in
    subst P w (subst Q (sym parts) (prefixed_onward made later (walk face hidden (step ∷ drop (place + 1) steps) filters)
    (followed_onward later (step_page face hidden step filters) (walk face (hidden_after face hidden step) (drop (place + 1) steps)) (h (sym f ∙ m)) (walk_onward face (hidden_after face hidden step) (drop (place + 1) steps)))))
