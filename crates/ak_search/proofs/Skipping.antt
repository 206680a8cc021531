-- What no longer matters may be skipped.
use Rattle.std.proofs.Common.{◌≡◌, Bool, true, false, not, ◌&&◌, ◌||◌, List, [], ◌∷◌, ◌++◌, length, Option, Some, None, IfSome, refl, ap, ◌∙◌, arith}
use Rattle.std.specs.Bool.{⊤}
use Rattle.ak_search.specs.declared.terms.Term.{Term}
use Rattle.ak_search.specs.declared.tokens.Piece.{Piece}
use Rattle.ak_search.specs.declared.tokens.Piece.TheVariants.{Test, BadValue, Open, Close, Or, And, OpenQuote}
use Rattle.ak_search.specs.declared.evaluator.Group.{Group as Outer}
use Rattle.ak_search.specs.Meanings.{negated_by, walk}
use Rattle.ak_search.specs.Passes.{behind_group, evaluated_from}
use Rattle.ak_search.specs.declared.evaluator.Evaluator.{Evaluator}

-- the same groups are open, and what was known before each is the same as far as it matters: where an alternative was met,
-- the parts behind it do not
abbrev Alike : List Outer → List Outer → Type 0
Alike [] [] = ⊤
Alike [] (h ∷ hs) = ⊥
Alike (g ∷ gs) [] = ⊥
Alike (g ∷ gs) (h ∷ hs) = (g.negated ≡ h.negated) × (g.either ≡ h.either) × ((g.either || g.all) ≡ (g.either || h.all)) × Alike gs hs

itself : (outer : List Outer) → Alike outer outer
itself [] = tt
itself (g ∷ gs) = (refl, refl, refl, itself gs)

with_part : (either a b x y : Bool) → (either || a) ≡ (either || b) → x ≡ y → (either || (a && x)) ≡ (either || (b && y))
with_part true a b x y e h = refl
with_part false a b x y e h = ap (λ v. v && x) e ∙ ap (λ v. b && v) h

alike : (holds : Term → Bool) (one other : List Outer) (either a b : Bool) (ps : List Piece) → Alike one other → (either || a) ≡ (either || b) → walk holds one either a ps ≡ walk holds other either b ps
alike holds one other either a b [] h e = e
alike holds one other either a b (Test negated term ∷ ps) h e =
    alike holds one other either (a && negated_by negated (holds term)) (b && negated_by negated (holds term)) ps h (with_part either a b (negated_by negated (holds term)) (negated_by negated (holds term)) e refl)
alike holds one other either a b (BadValue ∷ ps) h e = alike holds one other either a b ps h e
alike holds one other either a b (Open negated ∷ ps) h e =
    alike holds (record { negated = negated; either = either; all = a } ∷ one) (record { negated = negated; either = either; all = b } ∷ other) false true true ps (refl, refl, e, h) refl
alike holds [] [] either a b (Close ∷ ps) h e = alike holds [] [] either a b ps h e
alike holds [] (k ∷ ks) either a b (Close ∷ ps) h e = absurd h
alike holds (g ∷ gs) [] either a b (Close ∷ ps) h e = absurd h
alike holds (g ∷ gs) (k ∷ ks) either a b (Close ∷ ps) h e =
    let inside : negated_by g.negated (either || a) ≡ negated_by k.negated (either || b) = ap (λ v. negated_by v (either || a)) h.0 ∙ ap (negated_by k.negated) e in
    alike holds gs ks g.either (g.all && negated_by g.negated (either || a)) (k.all && negated_by k.negated (either || b)) ps h.3 (with_part g.either g.all k.all _ _ h.2 inside)
    ∙ ap (λ v. walk holds ks v (k.all && negated_by k.negated (either || b)) ps) h.1
alike holds one other either a b (Or ∷ ps) h e = ap (λ v. walk holds one v true ps) e ∙ alike holds one other (either || b) true true ps h refl
alike holds one other either a b (And ∷ ps) h e = alike holds one other either a b ps h e
alike holds one other either a b (OpenQuote ∷ ps) h e = alike holds one other either a b ps h e

-- a part that comes behind an alternative that was met, or beside a part that failed, does not matter
pub unasked : (holds : Term → Bool) (outer : List Outer) (either all part : Bool) (ps : List Piece) → (either || not all) ≡ true → walk holds outer either (all && part) ps ≡ walk holds outer either all ps
unasked holds outer true all part ps h = alike holds outer outer true (all && part) all ps (itself outer) refl
unasked holds outer false false part ps h = refl
unasked holds outer false true part ps h = grind (arith, h)

-- behind a group, whatever is inside
behind : (holds : Term → Bool) (front : List Outer) (group : Outer) (outer : List Outer) (either all : Bool) (ps rest : List Piece) → behind_group (length front) ps ≡ Some rest
    → (part : Bool) × (walk holds (front ++ (group ∷ outer)) either all ps ≡ walk holds outer group.either (group.all && part) rest)
behind holds front group outer either all [] rest h = absurd (grind (arith, h))
behind holds front group outer either all (Test negated term ∷ ps) rest h = behind holds front group outer either (all && negated_by negated (holds term)) ps rest h
behind holds front group outer either all (BadValue ∷ ps) rest h = behind holds front group outer either all ps rest h
behind holds front group outer either all (Open negated ∷ ps) rest h = behind holds (record { negated = negated; either = either; all = all } ∷ front) group outer false true ps rest h
behind holds [] group outer either all (Close ∷ ps) rest h =
    let part = negated_by group.negated (either || all) in
    let same : ps ≡ rest = cc in
    (part, ap (walk holds outer group.either (group.all && part)) same)
behind holds (g ∷ gs) group outer either all (Close ∷ ps) rest h = behind holds gs group outer g.either (g.all && negated_by g.negated (either || all)) ps rest h
behind holds front group outer either all (Or ∷ ps) rest h = behind holds front group outer (either || all) true ps rest h
behind holds front group outer either all (And ∷ ps) rest h = behind holds front group outer either all ps rest h
behind holds front group outer either all (OpenQuote ∷ ps) rest h = behind holds front group outer either all ps rest h

pub unasked_group : (holds : Term → Bool) (outer : List Outer) (either all negated : Bool) (ps rest : List Piece) → (either || not all) ≡ true → behind_group 0 ps ≡ Some rest
    → walk holds outer either all (Open negated ∷ ps) ≡ walk holds outer either all rest
unasked_group holds outer either all negated ps rest settled h =
    let passed = behind holds [] (record { negated = negated; either = either; all = all }) outer false true ps rest h in
    passed.1 ∙ unasked holds outer either all passed.0 rest settled

-- ---- the same of an evaluator that came so far
pub skipped_term : (e : Evaluator) (piece : Piece) (negated : Bool) (term : Term) (ps : List Piece) → (e.either || not e.all) ≡ true → piece ≡ Test negated term
    → (holds : Term → Bool) → evaluated_from e holds (piece ∷ ps) ≡ evaluated_from e holds ps
skipped_term e piece negated term ps settled is = λ holds.
    ap (λ (p : Piece). evaluated_from e holds (p ∷ ps)) is ∙ unasked holds e.outer.items e.either e.all (negated_by negated (holds term)) ps settled

pub skipped_group : {A : Type 0} (left : A → List Piece) (e : Evaluator) (piece : Piece) (negated : Bool) (ps : List Piece) (found : Option A) → (e.either || not e.all) ≡ true → piece ≡ Open negated
    → IfSome found (λ rest. behind_group 0 ps ≡ Some (left rest)) → IfSome found (λ rest. (holds : Term → Bool) → evaluated_from e holds (piece ∷ ps) ≡ evaluated_from e holds (left rest))
skipped_group left e piece negated ps None settled is behind = tt
skipped_group left e piece negated ps (Some rest) settled is behind = λ holds.
    ap (λ (p : Piece). evaluated_from e holds (p ∷ ps)) is ∙ unasked_group holds e.outer.items e.either e.all negated ps (left rest) settled behind
