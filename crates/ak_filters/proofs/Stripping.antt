-- A text is stripped piece by piece.
use Rattle.std.proofs.Common.{◌≡◌, ℕ, zero, suc, true, false, ◌&&◌, ◌||◌, cond, List, [], ◌∷◌, ◌++◌, drop, refl, ap, sym, ◌∙◌, arith}
use Rattle.std.specs.Prelude.{codes}
use Rattle.std.proofs.lemmas.Bool.{or_parts}
use Rattle.ak_base.specs.Cuts.{begins, has, front, behind}
use Rattle.ak_filters.specs.Strips.{removed, spaced}

past_piece : (xs : List ℕ) → removed true xs ≡ removed false (behind (codes ">") xs)
past_piece [] = refl
past_piece (b ∷ bs) = elim (begins (codes ">") (b ∷ bs)) as (λ v. cond v (removed false bs) (removed true bs) ≡ removed false (cond v bs (behind (codes ">") bs))) [ true ↦ refl | false ↦ past_piece bs ]

up_to_piece : (xs : List ℕ) → has (codes ">") (behind (codes "<") xs) ≡ true → removed false xs ≡ front (codes "<") xs ++ removed true (behind (codes "<") xs)
up_to_piece [] h = grind (arith, h)
up_to_piece (b ∷ bs) h = elim (begins (codes "<") (b ∷ bs)) as (λ v. has (codes ">") (cond v bs (behind (codes "<") bs)) ≡ true → cond (v && has (codes ">") bs) (removed true bs) (b ∷ removed false bs) ≡ cond v [] (b ∷ front (codes "<") bs) ++ removed true (cond v bs (behind (codes "<") bs))) [ true ↦ λ e. ap (λ w. cond w (removed true bs) (b ∷ removed false bs)) e | false ↦ λ e. ap (λ ys. b ∷ ys) (up_to_piece bs e) ] h

pub piece_removed : (xs : List ℕ) → has (codes ">") (behind (codes "<") xs) ≡ true → removed false xs ≡ front (codes "<") xs ++ removed false (behind (codes ">") (behind (codes "<") xs))
piece_removed xs h = up_to_piece xs h ∙ ap (λ ys. front (codes "<") xs ++ ys) (past_piece (behind (codes "<") xs))

none_behind : (xs : List ℕ) → has (codes ">") xs ≡ false → has (codes ">") (behind (codes "<") xs) ≡ false
none_behind [] h = refl
none_behind (b ∷ bs) h =
    let later = (or_parts (begins (codes ">") (b ∷ bs)) (has (codes ">") bs) h).1 in
    elim (begins (codes "<") (b ∷ bs)) as (λ v. has (codes ">") (cond v bs (behind (codes "<") bs)) ≡ false) [ true ↦ later | false ↦ none_behind bs later ]

pub unclosed_stays : (xs : List ℕ) → has (codes ">") (behind (codes "<") xs) ≡ false → removed false xs ≡ xs
unclosed_stays [] h = refl
unclosed_stays (b ∷ bs) h = elim (begins (codes "<") (b ∷ bs)) as (λ v. has (codes ">") (cond v bs (behind (codes "<") bs)) ≡ false → cond (v && has (codes ">") bs) (removed true bs) (b ∷ removed false bs) ≡ b ∷ bs) [ true ↦ λ e. ap (λ w. cond w (removed true bs) (b ∷ removed false bs)) e ∙ ap (λ ys. b ∷ ys) (unclosed_stays bs (none_behind bs e)) | false ↦ λ e. ap (λ ys. b ∷ ys) (unclosed_stays bs e) ] h

pub plain_stays : (xs : List ℕ) → has (codes "<") xs ≡ false → removed false xs ≡ xs
plain_stays [] h = refl
plain_stays (b ∷ bs) h =
    let both = or_parts (begins (codes "<") (b ∷ bs)) (has (codes "<") bs) h in
    ap (λ v. cond (v && has (codes ">") bs) (removed true bs) (b ∷ removed false bs)) both.0 ∙ ap (λ ys. b ∷ ys) (plain_stays bs both.1)

past_mark : (n : ℕ) (xs : List ℕ) → spaced n xs ≡ spaced 0 (drop n xs)
past_mark zero xs = refl
past_mark (suc n) [] = refl
past_mark (suc n) (b ∷ bs) = past_mark n bs

pub mark_replaced : (xs : List ℕ) → has (codes "&nbsp;") xs ≡ true → spaced 0 xs ≡ front (codes "&nbsp;") xs ++ (32 ∷ spaced 0 (behind (codes "&nbsp;") xs))
mark_replaced [] h = grind (arith, h)
mark_replaced (b ∷ bs) h = elim (begins (codes "&nbsp;") (b ∷ bs)) as (λ v. (v || has (codes "&nbsp;") bs) ≡ true → cond v (32 ∷ spaced 5 bs) (b ∷ spaced 0 bs) ≡ cond v [] (b ∷ front (codes "&nbsp;") bs) ++ 32 ∷ spaced 0 (cond v (drop 5 bs) (behind (codes "&nbsp;") bs))) [ true ↦ λ e. ap (λ ys. 32 ∷ ys) (past_mark 5 bs) | false ↦ λ e. ap (λ ys. b ∷ ys) (mark_replaced bs e) ] h

pub unmarked_stays : (xs : List ℕ) → has (codes "&nbsp;") xs ≡ false → spaced 0 xs ≡ xs
unmarked_stays [] h = refl
unmarked_stays (b ∷ bs) h =
    let both = or_parts (begins (codes "&nbsp;") (b ∷ bs)) (has (codes "&nbsp;") bs) h in
    ap (λ v. cond v (32 ∷ spaced 5 bs) (b ∷ spaced 0 bs)) both.0 ∙ ap (λ ys. b ∷ ys) (unmarked_stays bs both.1)

pub unclosed_piece : (xs piece : List ℕ) → piece ≡ behind (codes "<") xs → has (codes ">") piece ≡ false → removed false xs ≡ xs
unclosed_piece xs piece e h = unclosed_stays xs (ap (has (codes ">")) (sym e) ∙ h)

pub piece_between : (xs kept piece others : List ℕ) → kept ≡ front (codes "<") xs → piece ≡ behind (codes "<") xs → has (codes ">") piece ≡ true → others ≡ behind (codes ">") piece → removed false xs ≡ kept ++ removed false others
piece_between xs kept piece others k e h o =
    piece_removed xs (ap (has (codes ">")) (sym e) ∙ h)
    ∙ ap (λ ys. ys ++ removed false (behind (codes ">") (behind (codes "<") xs))) (sym k)
    ∙ ap (λ ys. kept ++ removed false ys) (ap (behind (codes ">")) (sym e) ∙ sym o)

pub mark_between : (xs kept others : List ℕ) → kept ≡ front (codes "&nbsp;") xs → has (codes "&nbsp;") xs ≡ true → others ≡ behind (codes "&nbsp;") xs → spaced 0 xs ≡ kept ++ (32 ∷ spaced 0 others)
mark_between xs kept others k h o =
    mark_replaced xs h ∙ ap (λ ys. ys ++ (32 ∷ spaced 0 (behind (codes "&nbsp;") xs))) (sym k)
    ∙ ap (λ ys. kept ++ (32 ∷ spaced 0 ys)) (sym o)
