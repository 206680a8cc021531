-- The first part of a path, and what is below it.
use Rattle.std.proofs.Common.{◌≡◌, ℕ, zero, suc, List, [], ◌∷◌, ◌++◌, drop, Bool, true, false, ◌&&◌, ◌||◌, ◌==◌, cond, refl, sym, ap, ◌∙◌, arith, append_assoc, append-nil}
use Rattle.std.specs.Prelude.{codes}
use Rattle.std.specs.Cmp.Lexicographic.{pointwise}
use Rattle.std.proofs.lemmas.Bool.{or_parts}
use Rattle.ak_base.specs.Cuts.{begins, has, front, behind}
use Rattle.ak_base.specs.Paths.{parts_from, parts_of, ancestors_from, are_first_parts, is_in_subtree, text_below, IsFirstPart, IsOnePart}

-- ---- ancestors
begun : (above : List ℕ) (b : ℕ) (bs : List ℕ) → begins (codes "::") (b ∷ bs) ≡ true → ancestors_from 1 (above ++ b ∷ []) bs ≡ ancestors_from 0 (above ++ codes "::") (drop 1 bs)
begun above b [] h = grind (arith, h)
begun above b (c ∷ cs) h =
    let one : b ≡ 58 = grind (arith, h) in
    let two : c ≡ 58 = grind (arith, h) in
    ap (λ ys. ancestors_from 0 ys cs) (append_assoc above (b ∷ []) (c ∷ []) ∙ ap (λ d. above ++ (d ∷ c ∷ [])) one ∙ ap (λ d. above ++ (58 ∷ d ∷ [])) two)

-- the ancestor that ends at the first part, and those below it
pub ancestors_first : (above xs : List ℕ) → has (codes "::") xs ≡ true → ancestors_from 0 above xs ≡ (above ++ front (codes "::") xs) ∷ ancestors_from 0 ((above ++ front (codes "::") xs) ++ codes "::") (behind (codes "::") xs)
ancestors_first above [] h = grind (arith, h)
ancestors_first above (b ∷ bs) h =
    elim (begins (codes "::") (b ∷ bs)) as (λ v. begins (codes "::") (b ∷ bs) ≡ v → (v || has (codes "::") bs) ≡ true
    → cond v (above ∷ ancestors_from 1 (above ++ b ∷ []) bs) (ancestors_from 0 (above ++ b ∷ []) bs)
    ≡ (above ++ cond v [] (b ∷ front (codes "::") bs)) ∷ ancestors_from 0 ((above ++ cond v [] (b ∷ front (codes "::") bs)) ++ codes "::") (cond v (drop 1 bs) (behind (codes "::") bs))) [
      | true ↦ λ e h.
          ap (λ ys. above ∷ ys) (begun above b bs e) ∙ ap (λ ys. ys ∷ ancestors_from 0 (ys ++ codes "::") (drop 1 bs)) (sym (append-nil above))
      | false ↦ λ e h.
          ancestors_first (above ++ b ∷ []) bs h ∙ ap (λ ys. ys ∷ ancestors_from 0 (ys ++ codes "::") (behind (codes "::") bs)) (append_assoc above (b ∷ []) (front (codes "::") bs))
    ] refl h

-- of a path of one part
pub ancestors_last : (above xs : List ℕ) → has (codes "::") xs ≡ false → ancestors_from 0 above xs ≡ (above ++ xs) ∷ []
ancestors_last above [] h = ap (λ ys. ys ∷ []) (sym (append-nil above))
ancestors_last above (b ∷ bs) h =
    let both = or_parts (begins (codes "::") (b ∷ bs)) (has (codes "::") bs) h in
    ap (λ v. cond v (above ∷ ancestors_from 1 (above ++ b ∷ []) bs) (ancestors_from 0 (above ++ b ∷ []) bs)) both.0
    ∙ ancestors_last (above ++ b ∷ []) bs both.1
    ∙ ap (λ ys. ys ∷ []) (append_assoc above (b ∷ []) bs)

-- ---- parts
after_colon : (bs : List ℕ) → parts_from 1 [] bs ≡ parts_from 0 [] (drop 1 bs)
after_colon [] = refl
after_colon (c ∷ cs) = refl

-- the first part, of which these bytes were read, and those below it
pub parts_first : (part xs : List ℕ) → has (codes "::") xs ≡ true → parts_from 0 part xs ≡ (part ++ front (codes "::") xs) ∷ parts_from 0 [] (behind (codes "::") xs)
parts_first part [] h = grind (arith, h)
parts_first part (b ∷ bs) h =
    elim (begins (codes "::") (b ∷ bs)) as (λ v. begins (codes "::") (b ∷ bs) ≡ v → (v || has (codes "::") bs) ≡ true
    → cond v (part ∷ parts_from 1 [] bs) (parts_from 0 (part ++ b ∷ []) bs)
    ≡ (part ++ cond v [] (b ∷ front (codes "::") bs)) ∷ parts_from 0 [] (cond v (drop 1 bs) (behind (codes "::") bs))) [
      | true ↦ λ e h.
          ap (λ ys. part ∷ ys) (after_colon bs) ∙ ap (λ ys. ys ∷ parts_from 0 [] (drop 1 bs)) (sym (append-nil part))
      | false ↦ λ e h.
          parts_first (part ++ b ∷ []) bs h ∙ ap (λ ys. ys ∷ parts_from 0 [] (behind (codes "::") bs)) (append_assoc part (b ∷ []) (front (codes "::") bs))
    ] refl h

-- of a path of one part
pub parts_last : (part xs : List ℕ) → has (codes "::") xs ≡ false → parts_from 0 part xs ≡ (part ++ xs) ∷ []
parts_last part [] h = ap (λ ys. ys ∷ []) (sym (append-nil part))
parts_last part (b ∷ bs) h =
    let both = or_parts (begins (codes "::") (b ∷ bs)) (has (codes "::") bs) h in
    ap (λ v. cond v (part ∷ parts_from 1 [] bs) (parts_from 0 (part ++ b ∷ []) bs)) both.0
    ∙ parts_last (part ++ b ∷ []) bs both.1
    ∙ ap (λ ys. ys ∷ []) (append_assoc part (b ∷ []) bs)

-- both of a path that is cut, and of one that is not
pub first_part : (path : List ℕ) → has (codes "::") path ≡ true → IsFirstPart path (front (codes "::") path) (behind (codes "::") path)
first_part path h = record { parts = parts_first [] path h; ancestors = λ above. ancestors_first above path h }

pub one_part : (path : List ℕ) → has (codes "::") path ≡ false → IsOnePart path
one_part path h = record { parts = parts_last [] path h; ancestors = λ above. ancestors_last above path h }

-- a path has some part
pub some_part : (left : ℕ) (part xs : List ℕ) → are_first_parts (parts_from left part xs) [] ≡ false
some_part left part [] = refl
some_part (suc left) part (x ∷ xs) = some_part left part xs
some_part zero part (x ∷ xs) =
    elim (begins (codes "::") (x ∷ xs)) as (λ b. are_first_parts (cond b (part ∷ parts_from 1 [] xs) (parts_from 0 (part ++ x ∷ []) xs)) [] ≡ false) [
      | true ↦ refl
      | false ↦ some_part 0 (part ++ x ∷ []) xs
    ]

and_false : (b : Bool) → (b && false) ≡ false
and_false true = refl
and_false false = refl

-- a path of one part is not below a path of more
pub not_below : (root path part below : List ℕ) → IsFirstPart root part below → IsOnePart path → false ≡ is_in_subtree root path
not_below root path part below more one =
    sym (ap (λ ps. are_first_parts ps (parts_of path)) more.parts ∙ ap (are_first_parts (part ∷ parts_of below)) one.parts
    ∙ ap (λ b. pointwise ◌==◌ part path && b) (some_part 0 [] below) ∙ and_false (pointwise ◌==◌ part path))

-- ---- the parts make the path
both_colons : (x : ℕ) (xs : List ℕ) → begins (codes "::") (x ∷ xs) ≡ true → x ∷ xs ≡ codes "::" ++ drop 1 xs
both_colons x [] h = grind (arith, h)
both_colons x (c ∷ cs) h =
    let one : x ≡ 58 = grind (arith, h) in
    let two : c ≡ 58 = grind (arith, h) in
    ap (λ d. d ∷ c ∷ cs) one ∙ ap (λ d. 58 ∷ d ∷ cs) two

mutual
  -- with the bytes of the next part that were read
  pub parts_make : (part xs : List ℕ) → text_below (parts_from 0 part xs) ≡ codes "::" ++ part ++ xs
  parts_make part [] = refl
  parts_make part (x ∷ xs) =
      elim (begins (codes "::") (x ∷ xs)) as (λ v. begins (codes "::") (x ∷ xs) ≡ v
      → text_below (cond v (part ∷ parts_from 1 [] xs) (parts_from 0 (part ++ x ∷ []) xs)) ≡ codes "::" ++ part ++ x ∷ xs) [
        | true ↦ λ h. ap (λ ys. codes "::" ++ part ++ ys) (parts_make_after xs ∙ sym (both_colons x xs h))
        | false ↦ λ h. parts_make (part ++ x ∷ []) xs ∙ ap (λ ys. codes "::" ++ ys) (append_assoc part (x ∷ []) xs)
      ] refl

  parts_make_after : (xs : List ℕ) → text_below (parts_from 1 [] xs) ≡ codes "::" ++ drop 1 xs
  parts_make_after [] = refl
  parts_make_after (c ∷ cs) = parts_make [] cs
