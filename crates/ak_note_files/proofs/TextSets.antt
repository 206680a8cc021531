-- Texts in a set.
use Rattle.std.proofs.Common.{◌≡◌, ◌||◌, ◌==◌, ℕ, Bool, true, false, cond, List, refl, ap, ◌∙◌}
use Rattle.std.specs.Cmp.Lexicographic.{pointwise, nat_list_eq_equiv}

-- what is in a set to which one was added
in_set : (is_it was : Bool) → cond is_it true was ≡ (was || (is_it || false))
in_set true true = refl
in_set true false = refl
in_set false true = refl
in_set false false = refl

pub added : (text other : List ℕ) (was now : Bool) → now ≡ cond (pointwise ◌==◌ text other) true was → now ≡ (was || (pointwise ◌==◌ other text || false))
added text other was now is =
    is ∙ in_set (pointwise ◌==◌ text other) was ∙ ap (λ b. was || (b || false)) (nat_list_eq_equiv.symm text other)

-- the first text that was left is in the set now
moved : (was first others : Bool) → ((was || (first || false)) || others) ≡ (was || (first || others))
moved true first others = refl
moved false true others = refl
moved false false others = refl

pub one_moved : (was now first others all : Bool) → (was || (first || others)) ≡ all → now ≡ (was || (first || false)) → (now || others) ≡ all
one_moved was now first others all so_far step = ap (λ b. b || others) step ∙ moved was first others ∙ so_far
