-- What the replies to one request more bring, and what the requests of one ask more are.
use Rattle.std.specs.Prelude.{◌≡◌, ℕ, suc, ◌+◌, ℤ, List, [], ◌∷◌, ◌++◌, length}
use Rattle.std.proofs.Common.{refl, sym, ap, ◌∙◌, append_assoc, append-nil, arith}
use Rattle.ak_exchange.specs.Asked.{request_at}
use Rattle.ak_keep.specs.Collections.{Collection}
use Rattle.ak_messages.specs.declared.requests.Ask.{Ask}
use Rattle.ak_messages.specs.declared.requests.Request.{Request}
use Rattle.ak_session.proofs.Steps.{nothing_first, nothing_last, then_then}
use Rattle.ak_session.specs.Answers.{answer_to}
use Rattle.ak_session.specs.Asks.{and_then, asks_of}
use Rattle.ak_session.specs.Plans.{Asker, requests_from}
use Rattle.ak_session.specs.Replies.{replied, replied_after, all_replied}

pub replied_append : (s : Collection) (before xs ys : List Ask)
    → replied_after s before (xs ++ ys) ≡ and_then (replied_after s before xs) (replied_after s (before ++ xs) ys)
replied_append s before [] ys =
    sym (nothing_first (replied_after s (before ++ []) ys) ∙ ap (λ (l : List Ask). replied_after s l ys) (append-nil before))
replied_append s before (ask ∷ more) ys =
    ap (and_then (replied (answer_to s before ask))) (replied_append s (before ++ ask ∷ []) more ys
    ∙ ap (λ (l : List Ask). and_then (replied_after s (before ++ ask ∷ []) more) (replied_after s l ys)) (append_assoc before (ask ∷ []) more))
    ∙ sym (then_then (replied (answer_to s before ask)) (replied_after s (before ++ ask ∷ []) more) (replied_after s (before ++ ask ∷ more) ys))

-- what the replies to these and one more bring
pub replies_go_on : (s : Collection) (asked : List Ask) (ask : Ask)
    → all_replied s (asked ++ ask ∷ []) ≡ and_then (all_replied s asked) (replied (answer_to s asked ask))
replies_go_on s asked ask = replied_append s [] asked (ask ∷ []) ∙ ap (and_then (all_replied s asked)) (nothing_last (replied (answer_to s asked ask)))

next_step : (step n : ℕ) → step + suc n ≡ step + 1 + n
next_step step n = omega arith

-- the requests of these asks and one more
pub requests_go_on : (who : Asker) (base : ℤ) (step : ℕ) (asked : List Ask) (ask : Ask)
    → requests_from who base step (asked ++ ask ∷ []) ≡ requests_from who base step asked ++ request_at who base (step + length asked) ask ∷ []
requests_go_on who base step [] ask = ap (λ (n : ℕ). request_at who base n ask ∷ []) (omega arith)
requests_go_on who base step (first ∷ more) ask =
    ap (λ (l : List Request). request_at who base step first ∷ l) (requests_go_on who base (step + 1) more ask
    ∙ ap (λ (n : ℕ). requests_from who base (step + 1) more ++ request_at who base n ask ∷ []) (sym (next_step step (length more))))

pub requests_count : (who : Asker) (base : ℤ) (step : ℕ) (asked : List Ask) → length (requests_from who base step asked) ≡ length asked
requests_count who base step [] = refl
requests_count who base step (ask ∷ more) = ap suc (requests_count who base (step + 1) more)

-- what they ask
pub asks_are : (who : Asker) (base : ℤ) (step : ℕ) (asked : List Ask) → asks_of (requests_from who base step asked) ≡ asked
asks_are who base step [] = refl
asks_are who base step (ask ∷ more) = ap (λ (l : List Ask). ask ∷ l) (asks_are who base (step + 1) more)
