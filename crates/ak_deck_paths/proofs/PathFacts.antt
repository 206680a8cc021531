-- What is above a path, and what comes after the path of a subtree.
use Rattle.std.specs.Prelude.{◌≡◌, ⊤, ℕ, zero, suc, Bool, true, false, not, ◌&&◌, ◌==◌, cond, if◌then◌else◌, codes, List, [], ◌∷◌, ◌++◌, drop, filter}
use Rattle.std.proofs.Common.{refl, sym, ap, ◌∙◌, append_assoc, arith}
use Rattle.std.specs.Cmp.Lexicographic.{pointwise, bytes_decides}
use Rattle.ak_base.specs.Cuts.{begins}
use Rattle.ak_base.specs.Paths.{IsFirstPart, ancestors_from, are_first_parts, is_in_subtree, parts_of, text_below}
use Rattle.ak_base.proofs.Pathways.{parts_make}
use Rattle.ak_base.specs.declared.decks.Deck.{Deck}
use Rattle.ak_deck_paths.specs.DeckPaths.{all_but_last, any_has_path, missing_one}

-- ---- what is missing above
-- the paths that none of the decks has
abbrev pub missing_of : List Deck → List (List ℕ) → List (List ℕ)
missing_of decks paths = filter (λ (path : List ℕ). not (any_has_path decks path)) paths

missing-first : (decks : List Deck) (path : List ℕ) (paths : List (List ℕ)) → missing_of decks (path ∷ paths) ≡ missing_one decks path ++ missing_of decks paths
missing-first decks path paths =
    elim (any_has_path decks path) as (λ b. cond (not b) (path ∷ missing_of decks paths) (missing_of decks paths) ≡ (if b then [] else path ∷ []) ++ missing_of decks paths) [ true ↦ refl | false ↦ refl ]

-- a list that is not empty
abbrev HasSome : List (List ℕ) → Type 0
HasSome [] = ⊥
HasSome (x ∷ xs) = ⊤

some_ancestor : (left : ℕ) (above path : List ℕ) → HasSome (ancestors_from left above path)
some_ancestor left above [] = tt
some_ancestor (suc left) above (byte ∷ bytes) = some_ancestor left (above ++ byte ∷ []) bytes
some_ancestor zero above (byte ∷ bytes) =
    elim (begins (codes "::") (byte ∷ bytes)) as (λ b. HasSome (cond b (above ∷ ancestors_from 1 (above ++ byte ∷ []) bytes) (ancestors_from 0 (above ++ byte ∷ []) bytes))) [
      | true ↦ tt
      | false ↦ some_ancestor 0 (above ++ byte ∷ []) bytes
    ]

not_last : (x : List ℕ) (xs : List (List ℕ)) → HasSome xs → all_but_last (x ∷ xs) ≡ x ∷ all_but_last xs
not_last x [] some = absurd some
not_last x (y ∷ ys) some = refl

-- the first part of a path ends the first of what is above it
pub part_above : (decks : List Deck) (above path part below : List ℕ) → IsFirstPart path part below
    → missing_of decks (all_but_last (ancestors_from 0 above path))
    ≡ missing_one decks (above ++ part) ++ missing_of decks (all_but_last (ancestors_from 0 ((above ++ part) ++ codes "::") below))
part_above decks above path part below is =
    let rest = ancestors_from 0 ((above ++ part) ++ codes "::") below in
    ap (λ (paths : List (List ℕ)). missing_of decks (all_but_last paths)) (is.ancestors above)
    ∙ ap (missing_of decks) (not_last (above ++ part) rest (some_ancestor 0 ((above ++ part) ++ codes "::") below))
    ∙ missing-first decks (above ++ part) (all_but_last rest)

-- one part more was looked at
pub one_above : (decks : List Deck) (above path part below : List ℕ) (missing more whole : List (List ℕ)) → IsFirstPart path part below
    → missing ++ missing_of decks (all_but_last (ancestors_from 0 above path)) ≡ whole → more ≡ missing ++ missing_one decks (above ++ part)
    → more ++ missing_of decks (all_but_last (ancestors_from 0 ((above ++ part) ++ codes "::") below)) ≡ whole
one_above decks above path part below missing more whole is so_far step =
    let rest = missing_of decks (all_but_last (ancestors_from 0 ((above ++ part) ++ codes "::") below)) in
    ap (λ ys. ys ++ rest) step
    ∙ append_assoc missing (missing_one decks (above ++ part)) rest
    ∙ ap (λ ys. missing ++ ys) (sym (part_above decks above path part below is))
    ∙ so_far

-- ---- a path of a subtree begins with the path of the subtree
both_true : (a b : Bool) → (a && b) ≡ true → (a ≡ true) × (b ≡ true)
both_true true b is = (refl, is)
both_true false b is = absurd (grind (arith, is))

-- parts that begin with others, as texts
first_text : (roots parts : List (List ℕ)) → are_first_parts roots parts ≡ true → (rest : List ℕ) × (text_below parts ≡ text_below roots ++ rest)
first_text [] parts is = (text_below parts, refl)
first_text (root ∷ roots) [] is = absurd (grind (arith, is))
first_text (root ∷ roots) (part ∷ parts) is =
    let both = both_true (pointwise ◌==◌ root part) (are_first_parts roots parts) is in
    let same : root ≡ part = (bytes_decides root part).0 both.0 in
    let more = first_text roots parts both.1 in
    let text : part ++ text_below parts ≡ (root ++ text_below roots) ++ more.0 =
    ap (λ ys. part ++ ys) more.1 ∙ ap (λ ys. ys ++ (text_below roots ++ more.0)) (sym same) ∙ sym (append_assoc root (text_below roots) more.0) in
    (more.0, ap (λ ys. 58 ∷ 58 ∷ ys) text)

tail_same : (xs ys : List ℕ) → codes "::" ++ xs ≡ codes "::" ++ ys → xs ≡ ys
tail_same xs ys is = ap (drop 2) is

pub subtree_front : (root path : List ℕ) → is_in_subtree root path ≡ true → (rest : List ℕ) × (path ≡ root ++ rest)
subtree_front root path is =
    let more = first_text (parts_of root) (parts_of path) is in (
      more.0,
      tail_same path (root ++ more.0)
          (sym (parts_make [] path) ∙ more.1 ∙ ap (λ ys. ys ++ more.0) (parts_make [] root)),
    )
