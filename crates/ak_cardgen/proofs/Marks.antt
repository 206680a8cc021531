-- Marks for the numbers of clozes.
use Rattle.std.proofs.Common.{◌≡◌, ℕ, ℤ, suc, ◌+◌, ◌<◌, pos, Bool, false, ◌||◌, List, ◌∷◌, drop, get_or, length, refl, sym, ap, ◌∙◌, add-one, drop-cons}
use Rattle.std.proofs.Math.Bool.{or_assoc}
use Rattle.std.specs.Ordering.{int_eq}
use Rattle.ak_cardgen.specs.Generation.{MarksOne, has_number}

-- one more number was marked
pub one_marked : (old new : List Bool) (numbers : List ℤ) (i : ℕ) (d : ℤ) (ord : ℕ) → i < length numbers → get_or new ord false ≡ (get_or old ord false || int_eq (get_or numbers i d) (pos (suc ord)))
    → (get_or old ord false || has_number (pos (suc ord)) (drop i numbers)) ≡ has_number (pos (suc ord)) numbers
    → (get_or new ord false || has_number (pos (suc ord)) (drop (i + 1) numbers)) ≡ has_number (pos (suc ord)) numbers
one_marked old new numbers i d ord inside marks so_far =
    ap (λ n. get_or new ord false || has_number (pos (suc ord)) (drop n numbers)) (add-one i)
    ∙ ap (λ b. b || has_number (pos (suc ord)) (drop (suc i) numbers)) marks
    ∙ or_assoc (get_or old ord false) (int_eq (get_or numbers i d) (pos (suc ord))) (has_number (pos (suc ord)) (drop (suc i) numbers))
    ∙ ap (λ ns. get_or old ord false || has_number (pos (suc ord)) ns) (sym (drop-cons numbers i d inside))
    ∙ so_far
