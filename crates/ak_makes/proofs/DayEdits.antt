-- The edits of a day, one after the other.
use Rattle.std.proofs.Common.{◌≡◌, ℕ, ◌+◌, List, [], ◌∷◌, ◌++◌, refl, sym, ap, subst, ◌∙◌, arith}
use Rattle.std.proofs.lemmas.List.{map-id}
use Rattle.std.proofs.lemmas.List.FromFn.{map-range_with_len_more}
use Rattle.std.specs.List.{range_with_len}
use Rattle.ak_keep.specs.Keepers.{Keeping}
use Rattle.ak_makes.specs.Days.{EditsInTurn, NumberedEdit}
use Rattle.ak_undo.specs.declared.steps.Step.{Step}

one_behind : (edits : NumberedEdit) (numbers : List ℕ) (number : ℕ) (was mid now : Keeping) (steps between left : List Step)
    → EditsInTurn edits numbers was mid steps between → edits number mid now between left → EditsInTurn edits (numbers ++ number ∷ []) was now steps left
one_behind edits [] number was mid now steps between left (same, kept) last =
    (now, left, subst (λ (k : Keeping). edits number k now steps left) same (subst (λ (s : List Step). edits number mid now s left) kept last), (refl, refl))
one_behind edits (first ∷ numbers) number was mid now steps between left (after, kept, does, rest) last =
    (after, kept, does, one_behind edits numbers number after mid now kept between left rest last)

range_more : (count : ℕ) → range_with_len 0 count ++ count ∷ [] ≡ range_with_len 0 (count + 1)
range_more count =
    ap (λ (numbers : List ℕ). numbers ++ count ∷ []) (sym (map-id (range_with_len 0 count)))
    ∙ sym (map-range_with_len_more (λ (number : ℕ). number) 0 count count (omega arith)) ∙ map-id (range_with_len 0 (count + 1))

-- one more edit was made
pub one_more : (edits : NumberedEdit) (count : ℕ) (was mid now : Keeping) (steps between left : List Step)
    → EditsInTurn edits (range_with_len 0 count) was mid steps between → edits count mid now between left
    → EditsInTurn edits (range_with_len 0 (count + 1)) was now steps left
one_more edits count was mid now steps between left so_far last =
    subst (λ (numbers : List ℕ). EditsInTurn edits numbers was now steps left) (range_more count)
    (one_behind edits (range_with_len 0 count) count was mid now steps between left so_far last)
