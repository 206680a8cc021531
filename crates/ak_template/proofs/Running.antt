-- The filters run on along a page: each of its parts applies some of them.
use Rattle.std.proofs.Common.{◌≡◌, ℕ, zero, suc, ◌+◌, ◌-◌, ◌<◌, ◌≤◌, ◌==◌, true, false, cond, Option, Some, None, Result, Ok, Err, IfOk, IfErr, IsErrAnd, ◌⊎◌, inl, inr, List, [], ◌∷◌, length, take, take_all, drop, get_or, refl, ap, sym, ◌∙◌, arith}
use Rattle.std.specs.Prelude.{⊤}
use Rattle.std.specs.Cmp.Lexicographic.{pointwise}
use Rattle.std.proofs.lemmas.List.{drop_more}
use Rattle.ak_filters.specs.Meanings.{Meaning, Form, filtered, turned}
use Rattle.ak_template.specs.declared.faces.Face.{Face}
use Rattle.ak_template.specs.declared.faces.PageFault.{PageFault}
use Rattle.ak_template.specs.declared.faces.PageFault.TheVariants as faults
use Rattle.ak_template.specs.declared.steps.Step.{Step}
use Rattle.ak_template.specs.declared.steps.Step.TheVariants.{Words, Field, Open, Close}
use Rattle.ak_template.specs.Trees.{Tree, tree_steps}
use Rattle.ak_template.specs.Pages.{Page, prefixed, followed, passed, behind_filter, filter_text, chain_text, looked_up, inner_text, tag_text, value_text, field_text, field_value, open_page, step_page, hidden_after, walk, page, kinds, turned_by, TurnedSome, walk_filters}
use Rattle.ak_template.proofs.Turning.{kinds_in_order}
use Rattle.ak_template.proofs.Walking.{prefixed_nil, prefixed_followed, walked}

-- the filters run on from the first to the second list: each was applied some number of times
abbrev pub RunOn : List Meaning → List Meaning → Type 0
RunOn [] [] = ⊤
RunOn [] (later ∷ laters) = ⊥
RunOn (filter ∷ filters) [] = ⊥
RunOn (filter ∷ filters) (later ∷ laters) = ((times : ℕ) × (later ≡ turned_by times filter)) × RunOn filters laters

pub run_nowhere : (filters : List Meaning) → RunOn filters filters
run_nowhere [] = tt
run_nowhere (filter ∷ filters) = ((0, refl), run_nowhere filters)

pub turned_more : (one other : ℕ) (filter : Meaning) → turned_by other (turned_by one filter) ≡ turned_by (one + other) filter
turned_more zero other filter = let sum : 0 + other ≡ other = omega arith in sym (ap (λ n. turned_by n filter) sum)
turned_more (suc one) other filter = let sum : suc one + other ≡ suc (one + other) = omega arith in turned_more one other (turned filter) ∙ sym (ap (λ n. turned_by n filter) sum)

pub run_further : (one two three : List Meaning) → RunOn one two → RunOn two three → RunOn one three
run_further [] [] three h k = k
run_further [] (b ∷ bs) three h k = absurd h
run_further (a ∷ more) [] three h k = absurd h
run_further (a ∷ more) (b ∷ bs) [] h k = absurd k
run_further (a ∷ more) (b ∷ bs) (c ∷ cs) h k = ((h.0.0 + k.0.0, k.0.1 ∙ ap (turned_by k.0.0) h.0.1 ∙ turned_more h.0.0 k.0.0 a), run_further more bs cs h.1 k.1)

abbrev kind : Meaning → List ℕ × Form
kind filter = (filter.name, filter.form)

kind_kept : (times : ℕ) (filter : Meaning) → kind (turned_by times filter) ≡ kind filter
kind_kept zero filter = refl
kind_kept (suc times) filter = kind_kept times (turned filter)

pub kinds_run : (one two : List Meaning) → RunOn one two → kinds two ≡ kinds one
kinds_run [] [] h = refl
kinds_run [] (b ∷ bs) h = absurd h
kinds_run (a ∷ more) [] h = absurd h
kinds_run (a ∷ more) (b ∷ bs) h = ap (λ k. k ∷ kinds bs) (ap kind h.0.1 ∙ kind_kept h.0.0 a) ∙ ap (λ ks. kind a ∷ ks) (kinds_run more bs h.1)

-- ---- along the parts of a page

filter_runs : (name text : List ℕ) (filters : List Meaning) → RunOn filters (filter_text name text filters).1
filter_runs name text [] = tt
filter_runs name text (filter ∷ filters) = elim (pointwise ◌==◌ filter.name name) as (λ v. RunOn (filter ∷ filters) (cond {A = Page} v (Ok (filtered filter text), turned filter ∷ filters) (behind_filter filter (filter_text name text filters))).1) [
  | true ↦ ((1, refl), run_nowhere filters)
  | false ↦ ((0, refl), filter_runs name text filters)
]

passed_runs : (p : Page) (next : List ℕ → List Meaning → Page) (filters : List Meaning) → RunOn filters p.1 → ((text : List ℕ) (later : List Meaning) → RunOn later (next text later).1) → RunOn filters (passed p next).1
passed_runs (Ok text, later) next filters h n = run_further filters later (next text later).1 h (n text later)
passed_runs (Err fault, later) next filters h n = h

chain_runs : (names : List (List ℕ)) (text : List ℕ) (filters : List Meaning) → RunOn filters (chain_text names text filters).1
chain_runs [] text filters = run_nowhere filters
chain_runs (name ∷ names) text filters = passed_runs (chain_text names text filters) (filter_text name) filters (chain_runs names text filters) (filter_runs name)

pub tag_runs : (face : Face) (names : List (List ℕ)) (text : List ℕ) (filters : List Meaning) → RunOn filters (tag_text face names text filters).1
tag_runs face names text filters = chain_runs (looked_up names) (inner_text face names text) filters

value_runs : (value : Option (List ℕ)) (face : Face) (names : List (List ℕ)) (name : List ℕ) (filters : List Meaning) → RunOn filters (value_text value face names name filters).1
value_runs None face names name filters = run_nowhere filters
value_runs (Some value) face names name filters = tag_runs face names value filters

pub field_runs : (face : Face) (names : List (List ℕ)) (name : List ℕ) (filters : List Meaning) → RunOn filters (field_text face names name filters).1
field_runs face names name filters = value_runs (field_value face name) face names name filters

open_runs : (value : Option (List ℕ)) (name : List ℕ) (filters : List Meaning) → RunOn filters (open_page value name filters).1
open_runs None name filters = run_nowhere filters
open_runs (Some value) name filters = run_nowhere filters

pub step_runs : (face : Face) (hidden : ℕ) (step : Step) (filters : List Meaning) → RunOn filters (step_page face hidden step filters).1
step_runs face zero (Words words) filters = run_nowhere filters
step_runs face zero (Field names name) filters = value_runs (field_value face name) face names name filters
step_runs face zero (Open inverted name) filters = open_runs (field_value face name) name filters
step_runs face zero (Close name) filters = run_nowhere filters
step_runs face (suc hidden) step filters = run_nowhere filters

prefixed_filters : (text : List ℕ) (p : Page) → (prefixed text p).1 ≡ p.1
prefixed_filters text (Ok more, filters) = refl
prefixed_filters text (Err fault, filters) = refl

-- what follows a page runs on from where it was
next_runs : (p : Page) (next : List Meaning → Page) → ((later : List Meaning) → RunOn later (next later).1) → RunOn p.1 (followed p next).1
next_runs (Ok text, later) next n = rw (prefixed_filters text (next later)) (n later)
next_runs (Err fault, later) next n = run_nowhere later

pub walk_runs : (face : Face) (hidden : ℕ) (steps : List Step) (filters : List Meaning) → RunOn filters (walk face hidden steps filters).1
walk_runs face hidden [] filters = run_nowhere filters
walk_runs face hidden (step ∷ steps) filters =
    run_further filters (step_page face hidden step filters).1 (walk face hidden (step ∷ steps) filters).1 (step_runs face hidden step filters)
    (next_runs (step_page face hidden step filters) (walk face (hidden_after face hidden step) steps) (walk_runs face (hidden_after face hidden step) steps))

-- ---- a chain of filters, from the last to the first

passed_nothing : (p : Page) → passed p (λ text filters. (Ok text, filters)) ≡ p
passed_nothing (Ok text, filters) = refl
passed_nothing (Err fault, filters) = refl

passed_twice : (p : Page) (next last : List ℕ → List Meaning → Page) → passed (passed p next) last ≡ passed p (λ text filters. passed (next text filters) last)
passed_twice (Ok text, filters) next last = refl
passed_twice (Err fault, filters) next last = refl

chain_last : (names : List (List ℕ)) (place : ℕ) (name text : List ℕ) (filters : List Meaning) → place < length names → name ≡ get_or names place name → chain_text (take (suc place) names) text filters ≡ passed (filter_text name text filters) (chain_text (take place names))
chain_last [] place name text filters l e = absurd (omega (arith, l))
chain_last (first ∷ names) zero name text filters l e = ap (λ n. filter_text n text filters) (sym e) ∙ sym (passed_nothing (filter_text name text filters))
chain_last (first ∷ names) (suc place) name text filters l e =
    ap (λ p. passed p (filter_text first)) (chain_last names place name text filters (omega arith) e)
    ∙ passed_twice (filter_text name text filters) (chain_text (take place names)) (filter_text first)

pub chain_whole : (names : List (List ℕ)) (text value : List ℕ) (filters : List Meaning) → text ≡ value → chain_text (take (length names) names) text filters ≡ chain_text names value filters
chain_whole names text value filters e = ap (λ ns. chain_text ns text filters) (take_all (length names) names (omega arith)) ∙ ap (λ t. chain_text names t filters) e

-- the filter that is next applied, and what is left of the chain
next_filter : (names : List (List ℕ)) (left : ℕ) (name given text passed_on : List ℕ) (filters : List Meaning) → 0 < left → left ≤ length names → name ≡ get_or names (left - 1) name → given ≡ name → passed_on ≡ text → chain_text (take left names) text filters ≡ passed (filter_text given passed_on filters) (chain_text (take (left - 1) names))
next_filter names left name given text passed_on filters l k i g t =
    let next : left ≡ suc (left - 1) = omega arith in
    ap (λ n. chain_text (take n names) text filters) next
    ∙ chain_last names (left - 1) name text filters (omega arith) i
    ∙ ap (λ n. passed (filter_text n text filters) (chain_text (take (left - 1) names))) (sym g)
    ∙ ap (λ n. passed (filter_text given n filters) (chain_text (take (left - 1) names))) (sym t)

pub chain_goes : (names : List (List ℕ)) (left : ℕ) (name given text passed_on made : List ℕ) (filters later : List Meaning) (whole : Page) → 0 < left → left ≤ length names → name ≡ get_or names (left - 1) name → given ≡ name → passed_on ≡ text → chain_text (take left names) text filters ≡ whole → filter_text given passed_on filters ≡ (Ok made, later) → chain_text (take (left - 1) names) made later ≡ whole
chain_goes names left name given text passed_on made filters later whole l k i g t w o =
    sym (ap (λ p. passed p (chain_text (take (left - 1) names))) o) ∙ sym (next_filter names left name given text passed_on filters l k i g t) ∙ w

pub chain_stops : (names : List (List ℕ)) (left : ℕ) (name given text passed_on : List ℕ) (fault was : PageFault) (filters later : List Meaning) (whole : Page) → 0 < left → left ≤ length names → name ≡ get_or names (left - 1) name → given ≡ name → passed_on ≡ text → chain_text (take left names) text filters ≡ whole → fault ≡ was → (was ≡ faults.Memory) ⊎ (filter_text given passed_on filters ≡ (Err was, later)) → (fault ≡ faults.Memory) ⊎ (whole ≡ (Err fault, later))
chain_stops names left name given text passed_on fault was filters later whole l k i g t w f (inl m) = inl (f ∙ m)
chain_stops names left name given text passed_on fault was filters later whole l k i g t w f (inr o) =
    inr (sym w ∙ next_filter names left name given text passed_on filters l k i g t ∙ ap (λ p. passed p (chain_text (take (left - 1) names))) o ∙ ap {B = Page} (λ e. (Err e, later)) (sym f))

-- ---- the steps of a page

-- what is left of a list from an element on
pub first_left : {A : Type 0} (xs : List A) (place : ℕ) (x : A) → place < length xs → x ≡ get_or xs place x → drop place xs ≡ x ∷ drop (place + 1) xs
first_left xs place x h is = drop_more xs place x h ∙ ap (λ y. y ∷ drop (place + 1) xs) (sym is)

-- one step more
pub walk_goes : (face : Face) (hidden after : ℕ) (steps : List Step) (place : ℕ) (step : Step) (made more : List ℕ) (filters later : List Meaning) (whole : Page) → place < length steps → step ≡ get_or steps place step → prefixed made (walk face hidden (drop place steps) filters) ≡ whole → prefixed made (step_page face hidden step filters) ≡ (Ok more, later) → after ≡ hidden_after face hidden step → prefixed more (walk face after (drop (place + 1) steps) later) ≡ whole
walk_goes face hidden after steps place step made more filters later whole l i w o a =
    ap (λ n. prefixed more (walk face n (drop (place + 1) steps) later)) a
    ∙ sym (ap (λ p. followed p (walk face (hidden_after face hidden step) (drop (place + 1) steps))) o)
    ∙ sym (prefixed_followed made (step_page face hidden step filters) (walk face (hidden_after face hidden step) (drop (place + 1) steps)))
    ∙ sym (ap (λ xs. prefixed made (walk face hidden xs filters)) (first_left steps place step l i))
    ∙ w

pub walk_stops : (face : Face) (hidden : ℕ) (steps : List Step) (place : ℕ) (step : Step) (made : List ℕ) (fault was : PageFault) (filters later : List Meaning) (whole : Page) → place < length steps → step ≡ get_or steps place step → prefixed made (walk face hidden (drop place steps) filters) ≡ whole → fault ≡ was → (was ≡ faults.Memory) ⊎ (step_page face hidden step filters ≡ (Err was, later)) → (fault ≡ faults.Memory) ⊎ (whole ≡ (Err fault, later))
walk_stops face hidden steps place step made fault was filters later whole l i w f (inl m) = inl (f ∙ m)
walk_stops face hidden steps place step made fault was filters later whole l i w f (inr o) =
    inr (sym w ∙ ap (λ xs. prefixed made (walk face hidden xs filters)) (first_left steps place step l i)
    ∙ ap (λ p. prefixed made (followed p (walk face (hidden_after face hidden step) (drop (place + 1) steps)))) o
    ∙ ap {B = Page} (λ e. (Err e, later)) (sym f))

pub nothing_yet : (made : List ℕ) (p : Page) → made ≡ [] → prefixed made p ≡ p
nothing_yet made p e = ap (λ text. prefixed text p) e ∙ prefixed_nil p

-- ---- refusals

pub err_was : {T E : Type 0} {Q P : E → Type 0} (r : Result T E) → IsErrAnd r Q → ((e : E) → Q e → P e) → IfErr r P
err_was (Ok x) h n = absurd h
err_was (Err e) h n = n e h

pub if_err : {T E : Type 0} {P : E → Type 0} (r : Result T E) → ((e : E) → P e) → IfErr r P
if_err (Ok x) h = tt
if_err (Err e) h = h e

-- ---- the whole

pub kinds_kept : (face : Face) (steps : List Step) (filters later : List Meaning) (r : Result (List ℕ) PageFault) → IfOk r (λ made. walk face 0 steps filters ≡ (Ok made, later)) → IfErr r (λ fault. (fault ≡ faults.Memory) ⊎ (walk face 0 steps filters ≡ (Err fault, later))) → IfErr r (λ fault. fault ≡ faults.Memory → TurnedSome (walk_filters face 0 steps) filters later) → kinds later ≡ kinds filters
kinds_kept face steps filters later (Ok made) o f m = kinds_run filters later (rw (← ap {A = Page} (λ p. p.1) o) (walk_runs face 0 steps filters))
kinds_kept face steps filters later (Err fault) o (inl e) m = let some = m e in ap kinds some.are ∙ kinds_in_order some.applied filters
kinds_kept face steps filters later (Err fault) o (inr e) m = kinds_run filters later (rw (← ap {A = Page} (λ p. p.1) e) (walk_runs face 0 steps filters))

pub steps_page : (face : Face) (tree : Tree) (steps own : List Step) (filters : List Meaning) → steps ≡ own → own ≡ tree_steps tree → walk face 0 steps filters ≡ page face tree filters
steps_page face tree steps own filters s t = ap (λ xs. walk face 0 xs filters) (s ∙ t) ∙ walked face tree filters
