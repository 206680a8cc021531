-- The pieces of a text, tag by tag.
use Rattle.std.proofs.Common.{◌≡◌, ℕ, zero, suc, ◌+◌, ◌-◌, ◌≤◌, true, false, cond, Some, None, List, [], ◌∷◌, ◌++◌, length, drop, length-drop, refl, ap, sym, ◌∙◌, arith}
use Rattle.std.specs.Prelude.{codes}
use Rattle.ak_base.specs.Cuts.{begins, behind}
use Rattle.ak_template.specs.declared.faults.TemplateFault.{TemplateFault}
use Rattle.ak_template.specs.declared.steps.Step.{Step}
use Rattle.ak_template.specs.Pieces.{Piece, has_tag, before_tag, inside_tag, behind_tag, pieces_in, pieces, words_at, steps_in, tag_of, trimmed}
use Rattle.std.proofs.Common.{Result, Ok, Err, IfOk, IfErr, OnOk, ◌⊎◌, map}
use Rattle.std.proofs.lemmas.Option.{same_Some}
use Rattle.ak_template.specs.declared.faults.TemplateFault.TheVariants as faults
use Rattle.ak_template.specs.declared.steps.Template.{Template}
use Rattle.ak_template.specs.Grammar.{IsTemplate, first_fault}
use Rattle.ak_template.specs.Trees.{Tree, tree_steps}
use Rattle.ak_template.proofs.Grammars.{has_tree, no_fault, head_same, tail_same}

pub behind_le : (mark xs : List ℕ) → length (behind mark xs) ≤ length xs
behind_le mark [] = omega arith
behind_le mark (b ∷ bs) = elim (begins mark (b ∷ bs)) as (λ v. length (cond v (drop (length mark) (b ∷ bs)) (behind mark bs)) ≤ length (b ∷ bs)) [ true ↦ omega (arith, length-drop (length mark) (b ∷ bs)) | false ↦ omega (arith, behind_le mark bs) ]

pub opening_shorter : (b : ℕ) (bs : List ℕ) → length (behind (codes "{{") (b ∷ bs)) ≤ length bs
opening_shorter b bs = elim (begins (codes "{{") (b ∷ bs)) as (λ v. length (cond v (drop 1 bs) (behind (codes "{{") bs)) ≤ length bs) [ true ↦ omega (arith, length-drop 1 bs) | false ↦ behind_le (codes "{{") bs ]

pub tag_shorter : (b : ℕ) (bs : List ℕ) → length (behind_tag (b ∷ bs)) ≤ length bs
tag_shorter b bs = omega (arith, opening_shorter b bs, behind_le (codes "}}") (behind (codes "{{") (b ∷ bs)))

enough : (m n size : ℕ) (text : List ℕ) → length text ≤ m → length text ≤ n → pieces_in m size text ≡ pieces_in n size text
enough zero zero size text l k = refl
enough zero (suc n) size [] l k = refl
enough zero (suc n) size (b ∷ bs) l k = absurd (omega (arith, l))
enough (suc m) zero size [] l k = refl
enough (suc m) zero size (b ∷ bs) l k = absurd (omega (arith, k))
enough (suc m) (suc n) size [] l k = refl
enough (suc m) (suc n) size (b ∷ bs) l k =
    ap (λ others. cond (has_tag (b ∷ bs)) (words_at (size - length (b ∷ bs)) (before_tag (b ∷ bs)) ++ ((size - length (b ∷ bs) + length (before_tag (b ∷ bs)), tag_of (trimmed (inside_tag (b ∷ bs)))) ∷ others)) (words_at (size - length (b ∷ bs)) (b ∷ bs)))
    (enough m n size (behind_tag (b ∷ bs)) (omega (arith, tag_shorter b bs, l)) (omega (arith, tag_shorter b bs, k)))

pub pieces_step : (size : ℕ) (text : List ℕ) → has_tag text ≡ true → pieces_in (length text) size text ≡ words_at (size - length text) (before_tag text) ++ ((size - length text + length (before_tag text), tag_of (trimmed (inside_tag text))) ∷ pieces_in (length (behind_tag text)) size (behind_tag text))
pieces_step size [] h = grind (arith, h)
pieces_step size (b ∷ bs) h =
    ap (λ v. cond v (words_at (size - length (b ∷ bs)) (before_tag (b ∷ bs)) ++ ((size - length (b ∷ bs) + length (before_tag (b ∷ bs)), tag_of (trimmed (inside_tag (b ∷ bs)))) ∷ pieces_in (length bs) size (behind_tag (b ∷ bs)))) (words_at (size - length (b ∷ bs)) (b ∷ bs))) h
    ∙ ap (λ others. words_at (size - length (b ∷ bs)) (before_tag (b ∷ bs)) ++ ((size - length (b ∷ bs) + length (before_tag (b ∷ bs)), tag_of (trimmed (inside_tag (b ∷ bs)))) ∷ others)) (enough (length bs) (length (behind_tag (b ∷ bs))) size (behind_tag (b ∷ bs)) (tag_shorter b bs) (omega arith))

pub pieces_last : (size : ℕ) (text : List ℕ) → has_tag text ≡ false → pieces_in (length text) size text ≡ words_at (size - length text) text
pieces_last size [] h = refl
pieces_last size (b ∷ bs) h = ap (λ v. cond v (words_at (size - length (b ∷ bs)) (before_tag (b ∷ bs)) ++ ((size - length (b ∷ bs) + length (before_tag (b ∷ bs)), tag_of (trimmed (inside_tag (b ∷ bs)))) ∷ pieces_in (length bs) size (behind_tag (b ∷ bs)))) (words_at (size - length (b ∷ bs)) (b ∷ bs))) h

-- the faults and the steps in front of a tag, in the words of what is read of it
pub step_at : {A : Type 0} (says : List Piece → A) (size place : ℕ) (rest before inside later : List ℕ) → has_tag rest ≡ true → before ≡ before_tag rest → inside ≡ inside_tag rest → later ≡ behind_tag rest → place ≡ size - length rest + length before → says (pieces_in (length rest) size rest) ≡ says (words_at (size - length rest) before ++ ((place, tag_of (trimmed inside)) ∷ pieces_in (length later) size later))
step_at says size place rest before inside later h b i l p =
    ap says (pieces_step size rest h)
    ∙ ap (λ xs. says (words_at (size - length rest) xs ++ ((size - length rest + length xs, tag_of (trimmed (inside_tag rest))) ∷ pieces_in (length (behind_tag rest)) size (behind_tag rest)))) (sym b)
    ∙ ap (λ n. says (words_at (size - length rest) before ++ ((n, tag_of (trimmed (inside_tag rest))) ∷ pieces_in (length (behind_tag rest)) size (behind_tag rest)))) (sym p)
    ∙ ap (λ xs. says (words_at (size - length rest) before ++ ((place, tag_of (trimmed xs)) ∷ pieces_in (length (behind_tag rest)) size (behind_tag rest)))) (sym i)
    ∙ ap (λ xs. says (words_at (size - length rest) before ++ ((place, tag_of (trimmed inside)) ∷ pieces_in (length xs) size xs))) (sym l)

steps_of_tree : (ps : List Piece) (steps : List Step) → map (λ (piece : Piece). piece.1) ps ≡ map Some steps → steps_in ps ≡ steps
steps_of_tree [] [] h = refl
steps_of_tree [] (step ∷ steps) h = grind (arith, h)
steps_of_tree (p ∷ ps) [] h = grind (arith, h)
steps_of_tree ((place, None) ∷ ps) (step ∷ steps) h = grind (arith, head_same None (Some step) (map (λ (piece : Piece). piece.1) ps) (map Some steps) h)
steps_of_tree ((place, Some first) ∷ ps) (step ∷ steps) h =
    ap (λ s. s ∷ steps_in ps) (same_Some first step (head_same (Some first) (Some step) (map (λ (piece : Piece). piece.1) ps) (map Some steps) h))
    ∙ ap (λ xs. step ∷ xs) (steps_of_tree ps steps (tail_same (Some first) (Some step) (map (λ (piece : Piece). piece.1) ps) (map Some steps) h))

pub tree_read : (text : List ℕ) (r : Result Template TemplateFault) → OnOk r (first_fault text ≡ None) → IfOk r (λ template. template.steps ≡ steps_in (pieces text)) → IfOk r (λ template. (tree : Tree) × IsTemplate text tree × (template.steps ≡ tree_steps tree))
tree_read text (Ok template) n s = let found = has_tree text n in (found.0, found.1, s ∙ steps_of_tree (pieces text) (tree_steps found.0) found.1.pieces)
tree_read text (Err fault) n s = tt

pub no_memory : (text : List ℕ) (r : Result Template TemplateFault) (tree : Tree) → IsTemplate text tree → IfErr r (λ fault. (fault ≡ faults.Memory) ⊎ (first_fault text ≡ Some fault)) → IfErr r (λ fault. fault ≡ faults.Memory)
no_memory text (Ok template) tree h e = tt
no_memory text (Err fault) tree h e = grind (arith, e, no_fault text tree h)
