-- What a search asks: walked through piece by piece, and of trees that are made of others.
use Rattle.std.proofs.Common.{◌≡◌, Bool, true, false, not, ◌&&◌, ◌||◌, List, [], ◌∷◌, ◌++◌, append_assoc, refl, ap, sym, ◌∙◌, arith, append-nil}
use Rattle.std.proofs.Math.Bool.{and_assoc, or_assoc}
use Rattle.std.specs.List.{list_all}
use Rattle.ak_search.specs.declared.terms.Term.{Term}
use Rattle.ak_search.specs.declared.tokens.Piece.{Piece}
use Rattle.ak_search.specs.declared.tokens.Piece.TheVariants.{Close}
use Rattle.ak_search.specs.declared.evaluator.Group.{Group as Outer}
use Rattle.ak_search.specs.Trees.{Tree, End, Asks, Group, Either, Also, pieces_of}
use Rattle.ak_search.specs.Meanings.{negated_by, some_holds, with_part, alternatives, meets, followed, has_no_or, walk}

-- whether a card meets what is left of a tree, as it is walked through. The truth values say whether it meets some alternative before the last `or`,
-- and all parts behind it so far
abbrev meets_from : (Term → Bool) → Bool → Bool → Tree → Bool
meets_from holds either all End = either || all
meets_from holds either all (Asks negated term after) = meets_from holds either (all && negated_by negated (holds term)) after
meets_from holds either all (Group negated inside after) = meets_from holds either (all && negated_by negated (meets_from holds false true inside)) after
meets_from holds either all (Either after) = meets_from holds (either || all) true after
meets_from holds either all (Also after) = meets_from holds either all after

-- ---- the walk by the alternatives

-- whether the alternatives so far are met, or these, of which the first goes on with the parts so far
abbrev met_from : Bool → Bool → List (List Bool) → Bool
met_from either all [] = either
met_from either all (first ∷ others) = either || ((all && list_all (λ part. part) first) || some_holds others)

no_part : (either all : Bool) → (either || all) ≡ met_from either all ([] ∷ [])
no_part true all = refl
no_part false true = refl
no_part false false = refl

one_part : (either all part : Bool) (all_of : List (List Bool)) → met_from either (all && part) all_of ≡ met_from either all (with_part part all_of)
one_part either all part [] = refl
one_part either true part (first ∷ others) = refl
one_part either false part (first ∷ others) = refl

next_one : (either all : Bool) (all_of : List (List Bool)) → met_from (either || all) true all_of ≡ met_from either all ([] ∷ all_of)
next_one true all [] = refl
next_one true all (first ∷ others) = refl
next_one false true [] = refl
next_one false true (first ∷ others) = refl
next_one false false [] = refl
next_one false false (first ∷ others) = refl

from_front : (all_of : List (List Bool)) → met_from false true all_of ≡ some_holds all_of
from_front [] = refl
from_front (first ∷ others) = refl

by_alternatives : (holds : Term → Bool) (tree : Tree) (either all : Bool) → meets_from holds either all tree ≡ met_from either all (alternatives holds tree)
by_alternatives holds End either all = no_part either all
by_alternatives holds (Asks negated term after) either all =
    let part = negated_by negated (holds term) in
    by_alternatives holds after either (all && part) ∙ one_part either all part (alternatives holds after)
by_alternatives holds (Group negated inside after) either all =
    let part = negated_by negated (some_holds (alternatives holds inside)) in
    ap (λ v. meets_from holds either (all && negated_by negated v) after) (by_alternatives holds inside false true ∙ from_front (alternatives holds inside))
    ∙ by_alternatives holds after either (all && part)
    ∙ one_part either all part (alternatives holds after)
by_alternatives holds (Either after) either all = by_alternatives holds after (either || all) true ∙ next_one either all (alternatives holds after)
by_alternatives holds (Also after) either all = by_alternatives holds after either all

walk_meets : (holds : Term → Bool) (tree : Tree) → meets_from holds false true tree ≡ meets holds tree
walk_meets holds tree = by_alternatives holds tree false true ∙ from_front (alternatives holds tree)

-- ---- the walk through the pieces

-- the two truth values behind a tree say whether it is met, whatever comes then
Walked : (Term → Bool) → List Outer → Bool → Bool → Tree → Type 0
Walked holds outer either all tree = (e : Bool) × (a : Bool) × ((e || a) ≡ meets_from holds either all tree) × ((ps : List Piece) → walk holds outer either all (pieces_of tree ++ ps) ≡ walk holds outer e a ps)

walked_tree : (holds : Term → Bool) (tree : Tree) (outer : List Outer) (either all : Bool) → Walked holds outer either all tree
unfolding Walked
walked_tree holds End outer either all = (either, all, refl, λ ps. refl)
walked_tree holds (Asks negated term after) outer either all = walked_tree holds after outer either (all && negated_by negated (holds term))
walked_tree holds (Either after) outer either all = walked_tree holds after outer (either || all) true
walked_tree holds (Also after) outer either all = walked_tree holds after outer either all
walked_tree holds (Group negated inside after) outer either all =
    let group : Outer = record { negated = negated; either = either; all = all } in
    let inner = walked_tree holds inside (group ∷ outer) false true in
    let later = walked_tree holds after outer either (all && negated_by negated (inner.0 || inner.1)) in (
      later.0,
      later.1,
      later.2 ∙ ap (λ v. meets_from holds either (all && negated_by negated v) after) inner.2,
      λ ps. ap (walk holds (group ∷ outer) false true) (append_assoc (pieces_of inside) (Close ∷ pieces_of after) ps) ∙ inner.3 (Close ∷ (pieces_of after ++ ps)) ∙ later.3 ps,
    )

pub walked : (holds : Term → Bool) (tree : Tree) → walk holds [] false true (pieces_of tree) ≡ meets holds tree
unfolding Walked
walked holds tree =
    let whole = walked_tree holds tree [] false true in
    ap (walk holds [] false true) (sym (append-nil (pieces_of tree))) ∙ whole.3 [] ∙ whole.2 ∙ walk_meets holds tree

-- ---- union, intersection, complement

either_apart : (holds : Term → Bool) (tree : Tree) (either all : Bool) → meets_from holds either all tree ≡ either || meets_from holds false all tree
either_apart holds End either all = refl
either_apart holds (Asks negated term after) either all = either_apart holds after either (all && negated_by negated (holds term))
either_apart holds (Group negated inside after) either all = either_apart holds after either (all && negated_by negated (meets_from holds false true inside))
either_apart holds (Also after) either all = either_apart holds after either all
either_apart holds (Either after) either all =
    either_apart holds after (either || all) true
    ∙ or_assoc either all (meets_from holds false true after)
    ∙ ap (λ v. either || v) (sym (either_apart holds after all true))

or_from : (holds : Term → Bool) (one other : Tree) (either all : Bool) → meets_from holds either all (followed one (Either other)) ≡ meets_from holds either all one || meets_from holds false true other
or_from holds End other either all = either_apart holds other (either || all) true
or_from holds (Asks negated term after) other either all = or_from holds after other either (all && negated_by negated (holds term))
or_from holds (Group negated inside after) other either all = or_from holds after other either (all && negated_by negated (meets_from holds false true inside))
or_from holds (Either after) other either all = or_from holds after other (either || all) true
or_from holds (Also after) other either all = or_from holds after other either all

pub either_meets : (holds : Term → Bool) (one other : Tree) → meets holds (followed one (Either other)) ≡ meets holds one || meets holds other
either_meets holds one other =
    sym (walk_meets holds (followed one (Either other)))
    ∙ or_from holds one other false true
    ∙ ap (λ v. v || meets_from holds false true other) (walk_meets holds one)
    ∙ ap (λ v. meets holds one || v) (walk_meets holds other)

all_apart : (holds : Term → Bool) (tree : Tree) (all : Bool) → has_no_or tree ≡ true → meets_from holds false all tree ≡ all && meets_from holds false true tree
all_apart holds End true h = refl
all_apart holds End false h = refl
all_apart holds (Asks negated term after) all h = all_apart holds after (all && negated_by negated (holds term)) h ∙ and_assoc all (negated_by negated (holds term)) (meets_from holds false true after) ∙ ap (λ v. all && v) (sym (all_apart holds after (negated_by negated (holds term)) h))
all_apart holds (Group negated inside after) all h =
    let part = negated_by negated (meets_from holds false true inside) in
    all_apart holds after (all && part) h ∙ and_assoc all part (meets_from holds false true after) ∙ ap (λ v. all && v) (sym (all_apart holds after part h))
all_apart holds (Either after) all h = grind (arith, h)
all_apart holds (Also after) all h = all_apart holds after all h

and_from : (holds : Term → Bool) (one other : Tree) (all : Bool) → has_no_or one ≡ true → has_no_or other ≡ true → meets_from holds false all (followed one other) ≡ meets_from holds false all one && meets_from holds false true other
and_from holds End other all h g = all_apart holds other all g
and_from holds (Asks negated term after) other all h g = and_from holds after other (all && negated_by negated (holds term)) h g
and_from holds (Group negated inside after) other all h g = and_from holds after other (all && negated_by negated (meets_from holds false true inside)) h g
and_from holds (Either after) other all h g = grind (arith, h)
and_from holds (Also after) other all h g = and_from holds after other all h g

pub both_meet : (holds : Term → Bool) (one other : Tree) → has_no_or one ≡ true → has_no_or other ≡ true → meets holds (followed one other) ≡ meets holds one && meets holds other
both_meet holds one other h g =
    sym (walk_meets holds (followed one other))
    ∙ and_from holds one other true h g
    ∙ ap (λ v. v && meets_from holds false true other) (walk_meets holds one)
    ∙ ap (λ v. meets holds one && v) (walk_meets holds other)

-- the one alternative has one part
alone : (part : Bool) → ((part && true) || false) ≡ part
alone true = refl
alone false = refl

pub none_meets : (holds : Term → Bool) (tree : Tree) → meets holds (Group true tree End) ≡ not (meets holds tree)
none_meets holds tree = alone (not (meets holds tree))
