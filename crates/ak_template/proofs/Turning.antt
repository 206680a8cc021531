-- A page applies the filters that it shows, in order.
use Rattle.std.proofs.Common.{◌≡◌, ℕ, zero, suc, ◌<◌, ◌≤◌, ◌-◌, ◌+◌, ◌==◌, true, false, cond, Option, Some, None, Ok, Err, List, [], ◌∷◌, ◌++◌, length, take, take_all, drop, get_or, append_assoc, append-nil, refl, ap, sym, subst, ◌∙◌, arith}
use Rattle.std.specs.Prelude.{⊤}
use Rattle.std.specs.Cmp.Lexicographic.{pointwise}
use Rattle.std.proofs.lemmas.List.{drop_more}
use Rattle.ak_filters.specs.Meanings.{Meaning, filtered, turned}
use Rattle.ak_template.specs.declared.faces.Face.{Face}
use Rattle.ak_template.specs.declared.faces.PageFault.{PageFault}
use Rattle.ak_template.specs.declared.faces.PageFault.TheVariants as faults
use Rattle.ak_template.specs.declared.steps.Step.{Step}
use Rattle.ak_template.specs.declared.steps.Step.TheVariants.{Words, Field, Open, Close}
use Rattle.ak_template.specs.Trees.{Tree, End, Plain, Value, Section, tree_steps}
use Rattle.ak_template.specs.Pages.{Page, prefixed, passed, behind_filter, filter_text, chain_text, looked_up, inner_text, tag_text, value_text, field_text, field_value, open_page, step_page, hidden_section, hidden_after, is_shown, kinds, turned_named, turned_in_order, TurnedSome, applied_order, tag_filters, step_filters, section_filters, shown_filters, walk_filters}

-- ---- of the names, some first ones

pub some_none : (names : List (List ℕ)) (filters : List Meaning) → TurnedSome names filters filters
some_none names filters = record { applied = []; others = names; all = refl; are = refl }

pub some_all : (names : List (List ℕ)) (old new : List Meaning) → new ≡ turned_in_order names old → TurnedSome names old new
some_all names old new e = record { applied = names; others = []; all = sym (append-nil names); are = e }

pub turned_on : (one other : List (List ℕ)) (filters : List Meaning) → turned_in_order (one ++ other) filters ≡ turned_in_order other (turned_in_order one filters)
turned_on [] other filters = refl
turned_on (name ∷ names) other filters = turned_on names other (turned_named name filters)

-- of the names those are left; the filters of all others were applied
pub record Midway (left names : List (List ℕ)) (old new : List Meaning) : Type 0 where
  pub applied : List (List ℕ)
  pub all : names ≡ applied ++ left
  pub are : new ≡ turned_in_order applied old

pub midway_start : (left names : List (List ℕ)) (filters : List Meaning) → left ≡ names → Midway left names filters filters
midway_start left names filters e = record { applied = []; all = sym e; are = refl }

pub midway_next : (whole own left names : List (List ℕ)) (old filters new : List Meaning) → whole ≡ own ++ left → Midway whole names old filters → new ≡ turned_in_order own filters → Midway left names old new
midway_next whole own left names old filters new w h e = record {
  applied = h.applied ++ own;
  all = h.all ∙ ap (λ ns. h.applied ++ ns) w ∙ sym (append_assoc h.applied own left);
  are = e ∙ ap (turned_in_order own) h.are ∙ sym (turned_on h.applied own old);
}

pub midway_stop : (left names : List (List ℕ)) (old new : List Meaning) → Midway left names old new → TurnedSome names old new
midway_stop left names old new h = record { applied = h.applied; others = left; all = h.all; are = h.are }

midway_some : (whole own left names : List (List ℕ)) (old filters new : List Meaning) → whole ≡ own ++ left → Midway whole names old filters → TurnedSome own filters new → TurnedSome names old new
midway_some whole own left names old filters new w h s = record {
  applied = h.applied ++ s.applied;
  others = s.others ++ left;
  all = h.all ∙ ap (λ ns. h.applied ++ ns) (w ∙ ap (λ ns. ns ++ left) s.all ∙ append_assoc s.applied s.others left) ∙ sym (append_assoc h.applied s.applied (s.others ++ left));
  are = s.are ∙ ap (turned_in_order s.applied) h.are ∙ sym (turned_on h.applied s.applied old);
}

-- memory ran out in a call that left the filters as they were
pub stopped_before : (left names : List (List ℕ)) (fault was : PageFault) (first filters later : List Meaning) → Midway left names first filters → fault ≡ was → (was ≡ faults.Memory → later ≡ filters) → fault ≡ faults.Memory → TurnedSome names first later
stopped_before left names fault was first filters later h f kept m =
    let P : List Meaning → Type 0 = λ fs. TurnedSome names first fs in
    subst P (sym (kept (sym f ∙ m))) (midway_stop left names first filters h)

-- memory ran out in a call that applied some first ones of its names
pub stopped_within : (whole own left names : List (List ℕ)) (fault was : PageFault) (first filters later : List Meaning) → whole ≡ own ++ left → Midway whole names first filters → fault ≡ was → (was ≡ faults.Memory → TurnedSome own filters later) → fault ≡ faults.Memory → TurnedSome names first later
stopped_within whole own left names fault was first filters later w h f some m = midway_some whole own left names first filters later w h (some (sym f ∙ m))

-- ---- the kinds stay

kinds_named : (name : List ℕ) (filters : List Meaning) → kinds (turned_named name filters) ≡ kinds filters
kinds_named name [] = refl
kinds_named name (filter ∷ filters) = elim (pointwise ◌==◌ filter.name name) as (λ v. kinds (cond v (turned filter ∷ filters) (filter ∷ turned_named name filters)) ≡ kinds (filter ∷ filters)) [ true ↦ refl | false ↦ ap (λ ks. (filter.name, filter.form) ∷ ks) (kinds_named name filters) ]

pub kinds_in_order : (names : List (List ℕ)) (filters : List Meaning) → kinds (turned_in_order names filters) ≡ kinds filters
kinds_in_order [] filters = refl
kinds_in_order (name ∷ names) filters = kinds_in_order names (turned_named name filters) ∙ kinds_named name filters

-- ---- a page without a fault leaves these filters

abbrev pub Leaves : List Meaning → Page → Type 0
Leaves end (Ok text, later) = later ≡ end
Leaves end (Err fault, later) = ⊤

leaves_behind : (filter : Meaning) (end : List Meaning) (p : Page) → Leaves end p → Leaves (filter ∷ end) (behind_filter filter p)
leaves_behind filter end (Ok text, later) h = ap (λ fs. filter ∷ fs) h
leaves_behind filter end (Err fault, later) h = tt

filter_leaves : (name text : List ℕ) (filters : List Meaning) → Leaves (turned_named name filters) (filter_text name text filters)
filter_leaves name text [] = tt
filter_leaves name text (filter ∷ filters) = elim (pointwise ◌==◌ filter.name name) as (λ v. Leaves (cond v (turned filter ∷ filters) (filter ∷ turned_named name filters)) (cond {A = Page} v (Ok (filtered filter text), turned filter ∷ filters) (behind_filter filter (filter_text name text filters)))) [
  | true ↦ refl
  | false ↦ leaves_behind filter (turned_named name filters) (filter_text name text filters) (filter_leaves name text filters)
]

passed_leaves : (names others : List (List ℕ)) (filters : List Meaning) (p : Page) (next : List ℕ → List Meaning → Page) → Leaves (turned_in_order names filters) p → ((text : List ℕ) (later : List Meaning) → Leaves (turned_in_order others later) (next text later)) → Leaves (turned_in_order (names ++ others) filters) (passed p next)
passed_leaves names others filters (Ok text, later) next h k =
    let P : List Meaning → Type 0 = λ end. Leaves end (next text later) in
    subst P (ap (turned_in_order others) h ∙ sym (turned_on names others filters)) (k text later)
passed_leaves names others filters (Err fault, later) next h k = tt

chain_leaves : (names : List (List ℕ)) (text : List ℕ) (filters : List Meaning) → Leaves (turned_in_order (applied_order names) filters) (chain_text names text filters)
chain_leaves [] text filters = refl
chain_leaves (name ∷ names) text filters = passed_leaves (applied_order names) (name ∷ []) filters (chain_text names text filters) (filter_text name) (chain_leaves names text filters) (filter_leaves name)

tag_leaves : (face : Face) (names : List (List ℕ)) (text : List ℕ) (filters : List Meaning) → Leaves (turned_in_order (tag_filters names) filters) (tag_text face names text filters)
tag_leaves face names text filters = chain_leaves (looked_up names) (inner_text face names text) filters

value_leaves : (value : Option (List ℕ)) (face : Face) (names : List (List ℕ)) (name : List ℕ) (filters : List Meaning) → Leaves (turned_in_order (tag_filters names) filters) (value_text value face names name filters)
value_leaves None face names name filters = tt
value_leaves (Some value) face names name filters = tag_leaves face names value filters

open_leaves : (value : Option (List ℕ)) (name : List ℕ) (filters : List Meaning) → Leaves filters (open_page value name filters)
open_leaves None name filters = tt
open_leaves (Some value) name filters = refl

step_leaves : (face : Face) (hidden : ℕ) (step : Step) (filters : List Meaning) → Leaves (turned_in_order (step_filters hidden step) filters) (step_page face hidden step filters)
step_leaves face zero (Words words) filters = refl
step_leaves face zero (Field names name) filters = value_leaves (field_value face name) face names name filters
step_leaves face zero (Open inverted name) filters = open_leaves (field_value face name) name filters
step_leaves face zero (Close name) filters = refl
step_leaves face (suc hidden) step filters = refl

leaves_by : (end : List Meaning) (p : Page) (text : List ℕ) (later : List Meaning) → p ≡ (Ok text, later) → Leaves end p → later ≡ end
leaves_by end p text later e h = let P : Page → Type 0 = λ q. Leaves end q in subst P e h

-- ---- along a tag, from its last filter to its first

pub one_turns : (name given text made : List ℕ) (filters later : List Meaning) → given ≡ name → filter_text given text filters ≡ (Ok made, later) → later ≡ turned_in_order (name ∷ []) filters
one_turns name given text made filters later g o = leaves_by (turned_named given filters) (filter_text given text filters) made later o (filter_leaves given text filters) ∙ ap (λ n. turned_named n filters) g

order_last : (names : List (List ℕ)) (place : ℕ) (name : List ℕ) → place < length names → name ≡ get_or names place name → applied_order (take (suc place) names) ≡ name ∷ applied_order (take place names)
order_last [] place name l e = absurd (omega (arith, l))
order_last (first ∷ names) zero name l e = ap (λ n. n ∷ []) (sym e)
order_last (first ∷ names) (suc place) name l e = ap (λ ns. ns ++ (first ∷ [])) (order_last names place name (omega arith) e)

pub order_next : (names : List (List ℕ)) (left : ℕ) (name : List ℕ) → 0 < left → left ≤ length names → name ≡ get_or names (left - 1) name → applied_order (take left names) ≡ (name ∷ []) ++ applied_order (take (left - 1) names)
order_next names left name l k i =
    let next : left ≡ suc (left - 1) = omega arith in
    ap (λ n. applied_order (take n names)) next ∙ order_last names (left - 1) name (omega arith) i

pub order_all : (names : List (List ℕ)) → applied_order (take (length names) names) ≡ applied_order names
order_all names = ap applied_order (take_all (length names) names (omega arith))

-- ---- along the steps

pub field_turned : (face : Face) (hidden : ℕ) (step : Step) (names given : List (List ℕ)) (name called text : List ℕ) (filters later : List Meaning) → hidden ≤ 0 → step ≡ Field names name → given ≡ names → field_text face given called filters ≡ (Ok text, later) → TurnedSome (step_filters hidden step) filters later
field_turned face hidden step names given name called text filters later l s g o =
    let none : hidden ≡ 0 = omega (arith, l) in
    let own : tag_filters given ≡ step_filters hidden step = ap tag_filters g ∙ sym (ap (step_filters 0) s) ∙ sym (ap (λ h. step_filters h step) none) in
    some_all (step_filters hidden step) filters later (leaves_by (turned_in_order (tag_filters given) filters) (field_text face given called filters) text later o (value_leaves (field_value face called) face given called filters) ∙ ap (λ ns. turned_in_order ns filters) own)

prefixed_leaves : (end : List Meaning) (text : List ℕ) (p : Page) → Leaves end p → Leaves end (prefixed text p)
prefixed_leaves end text (Ok more, later) h = h
prefixed_leaves end text (Err fault, later) h = tt

pub step_turns : (face : Face) (hidden : ℕ) (step : Step) (made more : List ℕ) (filters later : List Meaning) → prefixed made (step_page face hidden step filters) ≡ (Ok more, later) → later ≡ turned_in_order (step_filters hidden step) filters
step_turns face hidden step made more filters later o = leaves_by (turned_in_order (step_filters hidden step) filters) (prefixed made (step_page face hidden step filters)) more later o (prefixed_leaves (turned_in_order (step_filters hidden step) filters) made (step_page face hidden step filters) (step_leaves face hidden step filters))

pub steps_left : (face : Face) (hidden after : ℕ) (steps : List Step) (place : ℕ) (step : Step) → place < length steps → step ≡ get_or steps place step → after ≡ hidden_after face hidden step → walk_filters face hidden (drop place steps) ≡ step_filters hidden step ++ walk_filters face after (drop (place + 1) steps)
steps_left face hidden after steps place step l i a =
    ap (walk_filters face hidden) (drop_more steps place step l ∙ ap (λ (s : Step). s ∷ drop (place + 1) steps) (sym i))
    ∙ ap (λ h. step_filters hidden step ++ walk_filters face h (drop (place + 1) steps)) (sym a)

-- ---- the whole

hidden_filters : (face : Face) (tree : Tree) (hidden : ℕ) (rest : List Step) → walk_filters face (suc hidden) (tree_steps tree ++ rest) ≡ walk_filters face (suc hidden) rest
hidden_filters face End hidden rest = refl
hidden_filters face (Plain words after) hidden rest = hidden_filters face after hidden rest
hidden_filters face (Value names name after) hidden rest = hidden_filters face after hidden rest
hidden_filters face (Section inverted name inside after) hidden rest =
    ap (walk_filters face (suc (suc hidden))) (append_assoc (tree_steps inside) (Close name ∷ tree_steps after) rest)
    ∙ hidden_filters face inside (suc hidden) (Close name ∷ (tree_steps after ++ rest)) ∙ hidden_filters face after hidden rest

tree_filters : (face : Face) (tree : Tree) (rest : List Step) → walk_filters face 0 (tree_steps tree ++ rest) ≡ shown_filters face tree ++ walk_filters face 0 rest
tree_filters face End rest = refl
tree_filters face (Plain words after) rest = tree_filters face after rest
tree_filters face (Value names name after) rest = ap (λ ns. tag_filters names ++ ns) (tree_filters face after rest) ∙ sym (append_assoc (tag_filters names) (shown_filters face after) (walk_filters face 0 rest))
tree_filters face (Section inverted name inside after) rest =
    let behind = Close name ∷ (tree_steps after ++ rest) in
    let regroup = append_assoc (tree_steps inside) (Close name ∷ tree_steps after) rest in
    let hides : walk_filters face 1 ((tree_steps inside ++ (Close name ∷ tree_steps after)) ++ rest) ≡ shown_filters face after ++ walk_filters face 0 rest = ap (walk_filters face 1) regroup ∙ hidden_filters face inside 0 behind ∙ tree_filters face after rest in
    elim (field_value face name) as (λ v. walk_filters face (hidden_section v inverted) ((tree_steps inside ++ (Close name ∷ tree_steps after)) ++ rest) ≡ (section_filters v inverted (shown_filters face inside) ++ shown_filters face after) ++ walk_filters face 0 rest) [
      | None ↦ hides
      | Some value ↦ elim (is_shown inverted value) as (λ w. walk_filters face (cond w 0 1) ((tree_steps inside ++ (Close name ∷ tree_steps after)) ++ rest) ≡ (cond w (shown_filters face inside) [] ++ shown_filters face after) ++ walk_filters face 0 rest) [
        | true ↦ ap (walk_filters face 0) regroup ∙ tree_filters face inside behind ∙ ap (λ ns. shown_filters face inside ++ ns) (tree_filters face after rest) ∙ sym (append_assoc (shown_filters face inside) (shown_filters face after) (walk_filters face 0 rest))
        | false ↦ hides
      ]
    ]

pub filters_walked : (face : Face) (tree : Tree) (steps own : List Step) → steps ≡ own → own ≡ tree_steps tree → walk_filters face 0 steps ≡ shown_filters face tree
filters_walked face tree steps own s t = ap (walk_filters face 0) (s ∙ t ∙ sym (append-nil (tree_steps tree))) ∙ tree_filters face tree [] ∙ append-nil (shown_filters face tree)
