-- Records that are written one after another.
use Rattle.std.proofs.Common.{◌≡◌, List, ◌++◌, ap, ◌∙◌, append_assoc}

-- one more was written
pub one_written : {A : Type 0} (found more whole one others : List A) → found ++ (one ++ others) ≡ whole → more ≡ found ++ one
    → more ++ others ≡ whole
one_written found more whole one others so_far step =
    ap (λ ys. ys ++ others) step ∙ append_assoc found one others ∙ so_far
