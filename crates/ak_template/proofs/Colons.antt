-- The inside of a field's tag is read colon by colon.
use Rattle.std.proofs.Common.{◌≡◌, ℕ, ◌==◌, true, false, ◌&&◌, ◌||◌, cond, Option, Some, None, List, [], ◌∷◌, ◌++◌, length, refl, ap, sym, ◌∙◌, arith}
use Rattle.std.specs.Prelude.{codes}
use Rattle.std.specs.List.{slice_split, onto_first}
use Rattle.std.proofs.lemmas.List.Splits.{slice_split-cons_yes, slice_split-cons_no}
use Rattle.std.proofs.lemmas.Bool.{or_parts}
use Rattle.ak_base.specs.Cuts.{has, front, behind}
use Rattle.ak_template.specs.declared.steps.Step.{Step}
use Rattle.ak_template.specs.declared.steps.Step.TheVariants.{Field}
use Rattle.ak_template.specs.Pieces.{field_parts}

abbrev pub colon_parts : List ℕ → List (List ℕ)
colon_parts text = slice_split (λ byte. byte == 58) text

first_part : (text : List ℕ) → has (codes ":") text ≡ true → colon_parts text ≡ front (codes ":") text ∷ colon_parts (behind (codes ":") text)
first_part [] h = grind (arith, h)
first_part (b ∷ bs) h = elim (58 == b) as (λ v. (58 == b) ≡ v → ((v && true) || has (codes ":") bs) ≡ true → colon_parts (b ∷ bs) ≡ cond (v && true) [] (b ∷ front (codes ":") bs) ∷ colon_parts (cond (v && true) bs (behind (codes ":") bs))) [
  | true ↦ λ e k. (let here : (b == 58) ≡ true = grind (arith, e) in slice_split-cons_yes (λ byte. byte == 58) b bs here)
  | false ↦ λ e k. (let other : (b == 58) ≡ false = grind (arith, e) in slice_split-cons_no (λ byte. byte == 58) b bs other ∙ ap (onto_first b) (first_part bs k))
] refl h

only_part : (text : List ℕ) → has (codes ":") text ≡ false → colon_parts text ≡ text ∷ []
only_part [] h = refl
only_part (b ∷ bs) h =
    let both = or_parts ((58 == b) && true) (has (codes ":") bs) h in
    let other : (b == 58) ≡ false = grind (arith, both.0) in
    slice_split-cons_no (λ byte. byte == 58) b bs other ∙ ap (onto_first b) (only_part bs both.1)

some_part : (text : List ℕ) → (part : List ℕ) × (parts : List (List ℕ)) × (colon_parts text ≡ part ∷ parts)
some_part [] = ([], [], refl)
some_part (b ∷ bs) =
    let later = some_part bs in
    elim (b == 58) as (λ v. (b == 58) ≡ v → (part : List ℕ) × (parts : List (List ℕ)) × (colon_parts (b ∷ bs) ≡ part ∷ parts)) [
      | true ↦ λ e. ([], colon_parts bs, slice_split-cons_yes (λ byte. byte == 58) b bs e)
      | false ↦ λ e. (b ∷ later.0, later.1, slice_split-cons_no (λ byte. byte == 58) b bs e ∙ ap (onto_first b) later.2)
    ] refl

-- at a colon
at_colon : (filters : List (List ℕ)) (text : List ℕ) → has (codes ":") text ≡ true → field_parts filters (colon_parts text) ≡ cond (length (front (codes ":") text) == 0) None (field_parts (filters ++ front (codes ":") text ∷ []) (colon_parts (behind (codes ":") text)))
at_colon filters text h =
    let later = some_part (behind (codes ":") text) in
    ap (field_parts filters) (first_part text h ∙ ap (λ ps. front (codes ":") text ∷ ps) later.2)
    ∙ sym (ap (λ ps. cond (length (front (codes ":") text) == 0) None (field_parts (filters ++ front (codes ":") text ∷ []) ps)) later.2)

pub filter_read : (filters : List (List ℕ)) (text filter others copy : List ℕ) (whole : Option Step) → has (codes ":") text ≡ true → filter ≡ front (codes ":") text → others ≡ behind (codes ":") text → (length filter == 0) ≡ false → copy ≡ filter → field_parts filters (colon_parts text) ≡ whole → field_parts (filters ++ copy ∷ []) (colon_parts others) ≡ whole
filter_read filters text filter others copy whole h f o n c w =
    ap (λ x. field_parts (filters ++ x ∷ []) (colon_parts others)) (c ∙ f)
    ∙ ap (λ x. field_parts (filters ++ front (codes ":") text ∷ []) (colon_parts x)) o
    ∙ sym (ap (λ v. cond v None (field_parts (filters ++ front (codes ":") text ∷ []) (colon_parts (behind (codes ":") text)))) (ap (λ x. length x == 0) (sym f) ∙ n))
    ∙ sym (at_colon filters text h) ∙ w

pub no_filter_read : (filters : List (List ℕ)) (text filter : List ℕ) (whole : Option Step) → has (codes ":") text ≡ true → filter ≡ front (codes ":") text → (length filter == 0) ≡ true → field_parts filters (colon_parts text) ≡ whole → None ≡ whole
no_filter_read filters text filter whole h f n w =
    sym (ap (λ v. cond v None (field_parts (filters ++ front (codes ":") text ∷ []) (colon_parts (behind (codes ":") text)))) (ap (λ x. length x == 0) (sym f) ∙ n))
    ∙ sym (at_colon filters text h) ∙ w

pub name_read : (filters : List (List ℕ)) (text copy : List ℕ) (whole : Option Step) → has (codes ":") text ≡ false → (length text == 0) ≡ false → copy ≡ text → field_parts filters (colon_parts text) ≡ whole → Some (Field filters copy) ≡ whole
name_read filters text copy whole h n c w =
    ap (λ x. Some (Field filters x)) c ∙ sym (ap (λ v. cond v None (Some (Field filters text))) n) ∙ sym (ap (field_parts filters) (only_part text h)) ∙ w

pub no_name_read : (filters : List (List ℕ)) (text : List ℕ) (whole : Option Step) → has (codes ":") text ≡ false → (length text == 0) ≡ true → field_parts filters (colon_parts text) ≡ whole → None ≡ whole
no_name_read filters text whole h n w = sym (ap (λ v. cond v None (Some (Field filters text))) n) ∙ sym (ap (field_parts filters) (only_part text h)) ∙ w
