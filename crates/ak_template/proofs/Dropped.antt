-- A page that asks for no filter of a name is the same without the first filter of that name.
use Rattle.std.proofs.Common.{◌≡◌, ℕ, ◌+◌, ◌==◌, Bool, true, false, cond, Option, Some, None, Ok, Err, List, [], ◌∷◌, ◌++◌, refl, ap, sym, ◌∙◌, arith}
use Rattle.std.specs.Prelude.{⊤}
use Rattle.std.specs.Cmp.Lexicographic.{pointwise, same_text}
use Rattle.std.proofs.lemmas.List.Sums.{sum_by-cons}
use Rattle.ak_filters.specs.Lists.{without_filter}
use Rattle.ak_filters.specs.Meanings.{Meaning, filtered, turned}
use Rattle.ak_template.specs.declared.faces.Face.{Face}
use Rattle.ak_template.specs.Trees.{Tree, End, Plain, Value, Section}
use Rattle.ak_template.specs.Pages.{Page, prefixed, followed, passed, behind_filter, filter_text, chain_text, looked_up, inner_text, value_text, field_value, section_page, is_shown, page, applied_order, tag_filters, section_filters, shown_filters, occurrences}

-- the page, with the filters that it leaves but the first of the name
abbrev dropped : List ℕ → Page → Page
dropped name p = (p.0, without_filter name p.1)

-- none of the names is this one
abbrev Lacks : List ℕ → List (List ℕ) → Type 0
Lacks name [] = ⊤
Lacks name (other ∷ others) = (pointwise ◌==◌ other name ≡ false) × Lacks name others

lacks_both : (name : List ℕ) (names others : List (List ℕ)) → Lacks name (names ++ others) → Lacks name names × Lacks name others
lacks_both name [] others h = (tt, h)
lacks_both name (first ∷ names) others h = let later = lacks_both name names others h.1 in ((h.0, later.0), later.1)

lacks_order : (name : List ℕ) (names : List (List ℕ)) → Lacks name (applied_order names) → Lacks name names
lacks_order name [] h = tt
lacks_order name (first ∷ names) h = let both = lacks_both name (applied_order names) (first ∷ []) h in (both.1.0, lacks_order name names both.0)

none_of : (v : Bool) (n : ℕ) → cond v 1 0 + n ≡ 0 → (v ≡ false) × (n ≡ 0)
none_of true n h = absurd (omega (arith, h))
none_of false n h = (refl, omega (arith, h))

none_lacks : (name : List ℕ) (names : List (List ℕ)) → occurrences name names ≡ 0 → Lacks name names
none_lacks name [] h = tt
none_lacks name (first ∷ names) h =
    let both = none_of (pointwise ◌==◌ first name) (occurrences name names) (sym (sum_by-cons (λ (other : List ℕ). cond (pointwise ◌==◌ other name) 1 0) first names) ∙ h) in
    (both.0, none_lacks name names both.1)

-- ---- one filter

not_the_other : (given name other : List ℕ) → pointwise ◌==◌ given name ≡ true → pointwise ◌==◌ other name ≡ false → pointwise ◌==◌ given other ≡ false
not_the_other given name other t n = elim (pointwise ◌==◌ given other) as (λ v. pointwise ◌==◌ given other ≡ v → v ≡ false) [
  | true ↦ λ e. sym t ∙ ap (λ x. pointwise ◌==◌ x name) (same_text given other (sym e)) ∙ n
  | false ↦ λ e. refl
] refl

first_dropped : (name : List ℕ) (filter : Meaning) (p : Page) → pointwise ◌==◌ filter.name name ≡ true → dropped name (behind_filter filter p) ≡ p
first_dropped name filter p e = ap {B = Page} (λ v. (p.0, cond v p.1 (filter ∷ without_filter name p.1))) e

later_dropped : (name : List ℕ) (filter : Meaning) (p : Page) → pointwise ◌==◌ filter.name name ≡ false → behind_filter filter (dropped name p) ≡ dropped name (behind_filter filter p)
later_dropped name filter p e = sym (ap {B = Page} (λ v. (p.0, cond v p.1 (filter ∷ without_filter name p.1))) e)

filter_dropped : (name other text : List ℕ) (filters : List Meaning) → pointwise ◌==◌ other name ≡ false → filter_text other text (without_filter name filters) ≡ dropped name (filter_text other text filters)
filter_dropped name other text [] n = refl
filter_dropped name other text (filter ∷ filters) n = elim (pointwise ◌==◌ filter.name name) as (λ v. pointwise ◌==◌ filter.name name ≡ v → filter_text other text (cond v filters (filter ∷ without_filter name filters)) ≡ dropped name (filter_text other text (filter ∷ filters))) [
  | true ↦ λ e.
      sym (ap (λ v. dropped name (cond {A = Page} v (Ok (filtered filter text), turned filter ∷ filters) (behind_filter filter (filter_text other text filters)))) (not_the_other filter.name name other e n)
      ∙ first_dropped name filter (filter_text other text filters) e)
  | false ↦ λ e. elim (pointwise ◌==◌ filter.name other) as (λ w. cond {A = Page} w (Ok (filtered filter text), turned filter ∷ without_filter name filters) (behind_filter filter (filter_text other text (without_filter name filters))) ≡ dropped name (cond {A = Page} w (Ok (filtered filter text), turned filter ∷ filters) (behind_filter filter (filter_text other text filters)))) [
    | true ↦ sym (ap {B = Page} (λ v. (Ok (filtered filter text), cond v filters (turned filter ∷ without_filter name filters))) e)
    | false ↦ ap (behind_filter filter) (filter_dropped name other text filters n) ∙ later_dropped name filter (filter_text other text filters) e
  ]
] refl

-- ---- one part after another

prefixed_dropped : (name text : List ℕ) (p : Page) → prefixed text (dropped name p) ≡ dropped name (prefixed text p)
prefixed_dropped name text (Ok more, filters) = refl
prefixed_dropped name text (Err fault, filters) = refl

passed_dropped : (name : List ℕ) (p : Page) (next : List ℕ → List Meaning → Page) → ((text : List ℕ) (later : List Meaning) → next text (without_filter name later) ≡ dropped name (next text later)) → passed (dropped name p) next ≡ dropped name (passed p next)
passed_dropped name (Ok text, filters) next h = h text filters
passed_dropped name (Err fault, filters) next h = refl

followed_dropped : (name : List ℕ) (p : Page) (next : List Meaning → Page) → ((later : List Meaning) → next (without_filter name later) ≡ dropped name (next later)) → followed (dropped name p) next ≡ dropped name (followed p next)
followed_dropped name (Ok text, filters) next h = ap (prefixed text) (h filters) ∙ prefixed_dropped name text (next filters)
followed_dropped name (Err fault, filters) next h = refl

chain_dropped : (name : List ℕ) (names : List (List ℕ)) (text : List ℕ) (filters : List Meaning) → Lacks name names → chain_text names text (without_filter name filters) ≡ dropped name (chain_text names text filters)
chain_dropped name [] text filters h = refl
chain_dropped name (first ∷ names) text filters h =
    ap (λ p. passed p (filter_text first)) (chain_dropped name names text filters h.1)
    ∙ passed_dropped name (chain_text names text filters) (filter_text first) (λ text later. filter_dropped name first text later h.0)

value_dropped : (name : List ℕ) (value : Option (List ℕ)) (face : Face) (names : List (List ℕ)) (field : List ℕ) (filters : List Meaning) → Lacks name (tag_filters names) → value_text value face names field (without_filter name filters) ≡ dropped name (value_text value face names field filters)
value_dropped name None face names field filters h = refl
value_dropped name (Some value) face names field filters h = chain_dropped name (looked_up names) (inner_text face names value) filters (lacks_order name (looked_up names) h)

-- ---- the page

section_dropped : (name : List ℕ) (value : Option (List ℕ)) (inverted : Bool) (field : List ℕ) (names : List (List ℕ)) (filters : List Meaning) (shown hidden shown_then hidden_then : Page) → Lacks name (section_filters value inverted names)
    → (Lacks name names → shown_then ≡ dropped name shown) → hidden_then ≡ dropped name hidden
    → section_page value inverted field shown_then hidden_then (without_filter name filters) ≡ dropped name (section_page value inverted field shown hidden filters)
section_dropped name None inverted field names filters shown hidden shown_then hidden_then h s k = refl
section_dropped name (Some value) inverted field names filters shown hidden shown_then hidden_then h s k = elim (is_shown inverted value) as (λ v. Lacks name (cond v names []) → cond v shown_then hidden_then ≡ dropped name (cond v shown hidden)) [ true ↦ s | false ↦ λ l. k ] h

page_dropped : (name : List ℕ) (face : Face) (tree : Tree) (filters : List Meaning) → Lacks name (shown_filters face tree) → page face tree (without_filter name filters) ≡ dropped name (page face tree filters)
page_dropped name face End filters h = refl
page_dropped name face (Plain words after) filters h = followed_dropped name (Ok words, filters) (page face after) (λ later. page_dropped name face after later h)
page_dropped name face (Value names field after) filters h =
    let both = lacks_both name (tag_filters names) (shown_filters face after) h in
    ap (λ p. followed p (page face after)) (value_dropped name (field_value face field) face names field filters both.0)
    ∙ followed_dropped name (value_text (field_value face field) face names field filters) (page face after) (λ later. page_dropped name face after later both.1)
page_dropped name face (Section inverted field inside after) filters h =
    let both = lacks_both name (section_filters (field_value face field) inverted (shown_filters face inside)) (shown_filters face after) h in
    section_dropped name (field_value face field) inverted field (shown_filters face inside) filters (followed (page face inside filters) (page face after)) (page face after filters)
    (followed (page face inside (without_filter name filters)) (page face after)) (page face after (without_filter name filters)) both.0
    (λ l. ap (λ p. followed p (page face after)) (page_dropped name face inside filters l) ∙ followed_dropped name (page face inside filters) (page face after) (λ later. page_dropped name face after later both.1))
    (page_dropped name face after filters both.1)

pub unasked_may_go : (face : Face) (tree : Tree) (filters : List Meaning) (name : List ℕ) → occurrences name (shown_filters face tree) ≡ 0 → page face tree (without_filter name filters) ≡ ((page face tree filters).0, without_filter name (page face tree filters).1)
unasked_may_go face tree filters name h = page_dropped name face tree filters (none_lacks name (shown_filters face tree) h)
