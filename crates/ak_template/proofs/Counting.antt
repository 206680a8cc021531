-- A page turns each filter once for each shown occurrence of its name.
use Rattle.std.proofs.Common.{◌≡◌, ℕ, ◌+◌, ◌==◌, Bool, true, false, cond, Option, Some, None, Ok, Err, List, [], ◌∷◌, ◌++◌, refl, ap, sym, subst, ◌∙◌, arith}
use Rattle.std.specs.Prelude.{⊤}
use Rattle.std.specs.Option.{option_map}
use Rattle.std.specs.Cmp.Lexicographic.{pointwise, same_text}
use Rattle.std.proofs.lemmas.List.Sums.{sum_by-append, sum_by-cons}
use Rattle.ak_filters.specs.Meanings.{Meaning, filtered, turned}
use Rattle.ak_template.specs.declared.faces.Face.{Face}
use Rattle.ak_template.specs.Trees.{Tree, End, Plain, Value, Section}
use Rattle.ak_template.specs.Pages.{Page, prefixed, followed, passed, behind_filter, filter_text, chain_text, looked_up, inner_text, tag_text, value_text, field_value, section_page, is_shown, page, turned_by, applied_order, tag_filters, section_filters, shown_filters, filter_named, occurrences}
use Rattle.ak_template.proofs.Running.{turned_more}

-- each filter that a name stands for was turned once for each occurrence of the name
abbrev Turns : List (List ℕ) → List Meaning → List Meaning → Type 0
Turns names filters later = (name : List ℕ) → filter_named name later ≡ option_map (turned_by (occurrences name names)) (filter_named name filters)

turned_none : (filter : Option Meaning) → filter ≡ option_map (turned_by 0) filter
turned_none None = refl
turned_none (Some filter) = refl

turned_twice : (one other : ℕ) (filter : Option Meaning) → option_map (turned_by other) (option_map (turned_by one) filter) ≡ option_map (turned_by (one + other)) filter
turned_twice one other None = refl
turned_twice one other (Some filter) = ap (λ m. Some m) (turned_more one other filter)

turns_none : (filters : List Meaning) → Turns [] filters filters
turns_none filters = λ name. turned_none (filter_named name filters)

turns_both : (names others : List (List ℕ)) (one two three : List Meaning) → Turns names one two → Turns others two three → Turns (names ++ others) one three
turns_both names others one two three h k = λ name.
    k name ∙ ap (option_map (turned_by (occurrences name others))) (h name)
    ∙ turned_twice (occurrences name names) (occurrences name others) (filter_named name one)
    ∙ ap (λ n. option_map (turned_by n) (filter_named name one)) (sym (sum_by-append (λ (other : List ℕ). cond (pointwise ◌==◌ other name) 1 0) names others))

once : (name other : List ℕ) → occurrences name (other ∷ []) ≡ cond (pointwise ◌==◌ other name) 1 0
once name other = let sum = sum_by-cons (λ (n : List ℕ). cond (pointwise ◌==◌ n name) 1 0) other [] in omega (arith, sum)

other_than : (name other : List ℕ) → pointwise ◌==◌ other name ≡ false → occurrences name (other ∷ []) ≡ 0
other_than name other h = once name other ∙ ap (λ v. cond v 1 0) h

-- two names of which one filter has the first alone are not the same
not_both : (given one other : List ℕ) → pointwise ◌==◌ given one ≡ true → pointwise ◌==◌ given other ≡ false → pointwise ◌==◌ one other ≡ false
not_both given one other h k = ap (λ n. pointwise ◌==◌ n other) (sym (same_text given one (sym h))) ∙ k

not_either : (given one other : List ℕ) → pointwise ◌==◌ given one ≡ false → pointwise ◌==◌ given other ≡ true → pointwise ◌==◌ one other ≡ false
not_either given one other h k = elim (pointwise ◌==◌ one other) as (λ v. pointwise ◌==◌ one other ≡ v → v ≡ false) [ true ↦ λ e. sym (ap (λ n. pointwise ◌==◌ given n) (same_text one other (sym e)) ∙ k) ∙ h | false ↦ λ e. refl ] refl

-- a page after which the filters have those turns, if it has no fault
abbrev Lands : List (List ℕ) → List Meaning → Page → Type 0
Lands names filters (Ok text, later) = Turns names filters later
Lands names filters (Err fault, later) = ⊤

lands_behind : (name : List ℕ) (filter : Meaning) (filters : List Meaning) (p : Page) → pointwise ◌==◌ filter.name name ≡ false → Lands (name ∷ []) filters p → Lands (name ∷ []) (filter ∷ filters) (behind_filter filter p)
lands_behind name filter filters (Ok text, later) n h = λ other.
    elim (pointwise ◌==◌ filter.name other) as (λ v. pointwise ◌==◌ filter.name other ≡ v → cond v (Some filter) (filter_named other later) ≡ option_map (turned_by (occurrences other (name ∷ []))) (cond v (Some filter) (filter_named other filters))) [
      | true ↦ λ e. sym (ap (λ times. Some (turned_by times filter)) (other_than other name (not_either filter.name name other n e)))
      | false ↦ λ e. h other
    ] refl
lands_behind name filter filters (Err fault, later) n h = tt

first_turns : (name : List ℕ) (filter : Meaning) (filters : List Meaning) → pointwise ◌==◌ filter.name name ≡ true → Turns (name ∷ []) (filter ∷ filters) (turned filter ∷ filters)
first_turns name filter filters y = λ other.
    elim (pointwise ◌==◌ filter.name other) as (λ v. pointwise ◌==◌ filter.name other ≡ v → cond v (Some (turned filter)) (filter_named other filters) ≡ option_map (turned_by (occurrences other (name ∷ []))) (cond v (Some filter) (filter_named other filters))) [
      | true ↦ λ e. sym (ap (λ times. Some (turned_by times filter)) (once other name ∙ ap (λ v. cond v 1 0) (ap (λ n. pointwise ◌==◌ n other) (sym (same_text filter.name name (sym y))) ∙ e)))
      | false ↦ λ e. turned_none (filter_named other filters) ∙ sym (ap (λ times. option_map (turned_by times) (filter_named other filters)) (other_than other name (not_both filter.name name other y e)))
    ] refl

filter_lands : (name text : List ℕ) (filters : List Meaning) → Lands (name ∷ []) filters (filter_text name text filters)
filter_lands name text [] = tt
filter_lands name text (filter ∷ filters) = elim (pointwise ◌==◌ filter.name name) as (λ v. pointwise ◌==◌ filter.name name ≡ v → Lands (name ∷ []) (filter ∷ filters) (cond {A = Page} v (Ok (filtered filter text), turned filter ∷ filters) (behind_filter filter (filter_text name text filters)))) [
  | true ↦ λ e. first_turns name filter filters e
  | false ↦ λ e. lands_behind name filter filters (filter_text name text filters) e (filter_lands name text filters)
] refl

lands_further : (names others : List (List ℕ)) (one two : List Meaning) (p : Page) → Turns names one two → Lands others two p → Lands (names ++ others) one p
lands_further names others one two (Ok text, later) h k = turns_both names others one two later h k
lands_further names others one two (Err fault, later) h k = tt

passed_lands : (names others : List (List ℕ)) (filters : List Meaning) (p : Page) (next : List ℕ → List Meaning → Page) → Lands names filters p → ((text : List ℕ) (later : List Meaning) → Lands others later (next text later)) → Lands (names ++ others) filters (passed p next)
passed_lands names others filters (Ok text, later) next h k = lands_further names others filters later (next text later) h (k text later)
passed_lands names others filters (Err fault, later) next h k = tt

chain_lands : (names : List (List ℕ)) (text : List ℕ) (filters : List Meaning) → Lands (applied_order names) filters (chain_text names text filters)
chain_lands [] text filters = turns_none filters
chain_lands (name ∷ names) text filters = passed_lands (applied_order names) (name ∷ []) filters (chain_text names text filters) (filter_text name) (chain_lands names text filters) (filter_lands name)

tag_lands : (face : Face) (names : List (List ℕ)) (text : List ℕ) (filters : List Meaning) → Lands (tag_filters names) filters (tag_text face names text filters)
tag_lands face names text filters = chain_lands (looked_up names) (inner_text face names text) filters

value_lands : (value : Option (List ℕ)) (face : Face) (names : List (List ℕ)) (name : List ℕ) (filters : List Meaning) → Lands (tag_filters names) filters (value_text value face names name filters)
value_lands None face names name filters = tt
value_lands (Some value) face names name filters = tag_lands face names value filters

prefixed_lands : (names : List (List ℕ)) (filters : List Meaning) (text : List ℕ) (p : Page) → Lands names filters p → Lands names filters (prefixed text p)
prefixed_lands names filters text (Ok more, later) h = h
prefixed_lands names filters text (Err fault, later) h = tt

followed_lands : (names others : List (List ℕ)) (filters : List Meaning) (p : Page) (next : List Meaning → Page) → Lands names filters p → ((later : List Meaning) → Lands others later (next later)) → Lands (names ++ others) filters (followed p next)
followed_lands names others filters (Ok text, later) next h k = prefixed_lands (names ++ others) filters text (next later) (lands_further names others filters later (next later) h (k later))
followed_lands names others filters (Err fault, later) next h k = tt

section_lands : (value : Option (List ℕ)) (inverted : Bool) (name : List ℕ) (names others : List (List ℕ)) (filters : List Meaning) (shown hidden : Page) → Lands (names ++ others) filters shown → Lands others filters hidden → Lands (section_filters value inverted names ++ others) filters (section_page value inverted name shown hidden filters)
section_lands None inverted name names others filters shown hidden h k = tt
section_lands (Some value) inverted name names others filters shown hidden h k = elim (is_shown inverted value) as (λ v. Lands (cond v names [] ++ others) filters (cond v shown hidden)) [ true ↦ h | false ↦ k ]

page_lands : (face : Face) (tree : Tree) (filters : List Meaning) → Lands (shown_filters face tree) filters (page face tree filters)
page_lands face End filters = turns_none filters
page_lands face (Plain words after) filters = followed_lands [] (shown_filters face after) filters (Ok words, filters) (page face after) (turns_none filters) (page_lands face after)
page_lands face (Value names name after) filters = followed_lands (tag_filters names) (shown_filters face after) filters (value_text (field_value face name) face names name filters) (page face after) (value_lands (field_value face name) face names name filters) (page_lands face after)
page_lands face (Section inverted name inside after) filters =
    section_lands (field_value face name) inverted name (shown_filters face inside) (shown_filters face after) filters (followed (page face inside filters) (page face after)) (page face after filters)
    (followed_lands (shown_filters face inside) (shown_filters face after) filters (page face inside filters) (page face after) (page_lands face inside filters) (page_lands face after)) (page_lands face after filters)

pub turns_counted : (face : Face) (tree : Tree) (filters later : List Meaning) (text name : List ℕ) → page face tree filters ≡ (Ok text, later) → filter_named name later ≡ option_map (turned_by (occurrences name (shown_filters face tree))) (filter_named name filters)
turns_counted face tree filters later text name h = let landed : Lands (shown_filters face tree) filters (Ok text, later) = subst (λ (p : Page). Lands (shown_filters face tree) filters p) h (page_lands face tree filters) in landed name
