-- Step by step, a tree's page is the page of the whole.
use Rattle.std.proofs.Common.{◌≡◌, ℕ, suc, true, false, cond, Some, None, Ok, Err, List, [], ◌∷◌, ◌++◌, append_assoc, refl, ap, sym, ◌∙◌, append-nil}
use Rattle.ak_filters.specs.Meanings.{Meaning}
use Rattle.ak_template.specs.declared.faces.Face.{Face}
use Rattle.ak_template.specs.declared.steps.Step.{Step}
use Rattle.ak_template.specs.declared.steps.Step.TheVariants.{Close}
use Rattle.ak_template.specs.Trees.{Tree, End, Plain, Value, Section, tree_steps}
use Rattle.ak_template.specs.Pages.{Page, prefixed, followed, page, walk, field_text, field_value, section_page, open_page, hidden_section, is_shown}

pub prefixed_nil : (p : Page) → prefixed [] p ≡ p
prefixed_nil (Ok text, filters) = refl
prefixed_nil (Err fault, filters) = refl

prefixed_twice : (one other : List ℕ) (p : Page) → prefixed one (prefixed other p) ≡ prefixed (one ++ other) p
prefixed_twice one other (Ok text, filters) = ap {B = Page} (λ xs. (Ok xs, filters)) (sym (append_assoc one other text))
prefixed_twice one other (Err fault, filters) = refl

pub prefixed_followed : (text : List ℕ) (p : Page) (next : List Meaning → Page) → prefixed text (followed p next) ≡ followed (prefixed text p) next
prefixed_followed text (Ok more, filters) next = prefixed_twice text more (next filters)
prefixed_followed text (Err fault, filters) next = refl

followed_on : (p : Page) (f g next : List Meaning → Page) → ((filters : List Meaning) → f filters ≡ followed (g filters) next) → followed p f ≡ followed (followed p g) next
followed_on (Ok text, filters) f g next h = ap (prefixed text) (h filters) ∙ prefixed_followed text (g filters) next
followed_on (Err fault, filters) f g next h = refl

hidden_tree : (face : Face) (tree : Tree) (hidden : ℕ) (rest : List Step) (filters : List Meaning) → walk face (suc hidden) (tree_steps tree ++ rest) filters ≡ walk face (suc hidden) rest filters
hidden_tree face End hidden rest filters = refl
hidden_tree face (Plain words after) hidden rest filters = prefixed_nil (walk face (suc hidden) (tree_steps after ++ rest) filters) ∙ hidden_tree face after hidden rest filters
hidden_tree face (Value names name after) hidden rest filters = prefixed_nil (walk face (suc hidden) (tree_steps after ++ rest) filters) ∙ hidden_tree face after hidden rest filters
hidden_tree face (Section inverted name inside after) hidden rest filters =
    prefixed_nil (walk face (suc (suc hidden)) ((tree_steps inside ++ (Close name ∷ tree_steps after)) ++ rest) filters)
    ∙ ap (λ xs. walk face (suc (suc hidden)) xs filters) (append_assoc (tree_steps inside) (Close name ∷ tree_steps after) rest)
    ∙ hidden_tree face inside (suc hidden) (Close name ∷ (tree_steps after ++ rest)) filters
    ∙ prefixed_nil (walk face (suc hidden) (tree_steps after ++ rest) filters)
    ∙ hidden_tree face after hidden rest filters

pub walked_tree : (face : Face) (tree : Tree) (rest : List Step) (filters : List Meaning) → walk face 0 (tree_steps tree ++ rest) filters ≡ followed (page face tree filters) (walk face 0 rest)
walked_tree face End rest filters = sym (prefixed_nil (walk face 0 rest filters))
walked_tree face (Plain words after) rest filters = followed_on (Ok words, filters) (walk face 0 (tree_steps after ++ rest)) (page face after) (walk face 0 rest) (walked_tree face after rest)
walked_tree face (Value names name after) rest filters = followed_on (field_text face names name filters) (walk face 0 (tree_steps after ++ rest)) (page face after) (walk face 0 rest) (walked_tree face after rest)
walked_tree face (Section inverted name inside after) rest filters =
    let behind = Close name ∷ (tree_steps after ++ rest) in
    let regroup = append_assoc (tree_steps inside) (Close name ∷ tree_steps after) rest in
    elim (field_value face name) as (λ v. followed (open_page v name filters) (walk face (hidden_section v inverted) ((tree_steps inside ++ (Close name ∷ tree_steps after)) ++ rest)) ≡ followed (section_page v inverted name (followed (page face inside filters) (page face after)) (page face after filters) filters) (walk face 0 rest)) [
      | None ↦ refl
      | Some value ↦ elim (is_shown inverted value) as (λ w. prefixed [] (walk face (cond w 0 1) ((tree_steps inside ++ (Close name ∷ tree_steps after)) ++ rest) filters) ≡ followed (cond {A = Page} w (followed (page face inside filters) (page face after)) (page face after filters)) (walk face 0 rest)) [
        | true ↦ prefixed_nil (walk face 0 ((tree_steps inside ++ (Close name ∷ tree_steps after)) ++ rest) filters)
            ∙ ap (λ xs. walk face 0 xs filters) regroup
            ∙ walked_tree face inside behind filters
            ∙ followed_on (page face inside filters) (walk face 0 behind) (page face after) (walk face 0 rest) (λ ms. prefixed_nil (walk face 0 (tree_steps after ++ rest) ms) ∙ walked_tree face after rest ms)
        | false ↦ prefixed_nil (walk face 1 ((tree_steps inside ++ (Close name ∷ tree_steps after)) ++ rest) filters)
            ∙ ap (λ xs. walk face 1 xs filters) regroup
            ∙ hidden_tree face inside 0 behind filters
            ∙ prefixed_nil (walk face 0 (tree_steps after ++ rest) filters)
            ∙ walked_tree face after rest filters
      ]
    ]

followed_by_nothing : (p : Page) → followed p (λ filters. (Ok [], filters)) ≡ p
followed_by_nothing (Ok text, filters) = ap {B = Page} (λ xs. (Ok xs, filters)) (append-nil text)
followed_by_nothing (Err fault, filters) = refl

pub walked : (face : Face) (tree : Tree) (filters : List Meaning) → walk face 0 (tree_steps tree) filters ≡ page face tree filters
walked face tree filters = ap (λ xs. walk face 0 xs filters) (sym (append-nil (tree_steps tree))) ∙ walked_tree face tree [] filters ∙ followed_by_nothing (page face tree filters)
