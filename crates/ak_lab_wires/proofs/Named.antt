-- The requests of a log that a line names, entry by entry.
use Rattle.std.proofs.Common.{◌≡◌, ◌≢◌, ◌<◌, ◌≤◌, ◌+◌, ◌-◌, ℕ, zero, suc, List, [], ◌∷◌, ◌++◌, length, drop, take, get_or, refl, sym, ap, ◌∙◌, add-one, append-nil, append_assoc, arith, drop-cons}
use Rattle.ak_lab_wires.specs.Servings.{named_from, requests_in, with_served}
use Rattle.ak_messages.specs.declared.requests.Request.{Request}
use Rattle.ak_sync_in_memory.specs.declared.logs.Entry.{Entry}

-- what is left from a place on
pub from_place : {A : Type 0} (list : List A) (place : ℕ) (it : A) → place < length list → it ≡ get_or list place it
    → drop place list ≡ it ∷ drop (place + 1) list
from_place list place it within is =
    drop-cons list place it within ∙ ap (λ x. x ∷ drop (suc place) list) (sym is) ∙ ap (λ n. it ∷ drop n list) (sym (add-one place))

-- nothing is left past the end
pub past_end : {A : Type 0} (list : List A) (place : ℕ) → length list ≤ place → drop place list ≡ []
past_end [] zero past = refl
past_end [] (suc place) past = refl
past_end (it ∷ list) zero past = absurd (omega (arith, past))
past_end (it ∷ list) (suc place) past = past_end list place (omega (arith, past))

-- ---- one request
pub named_passed : (passed named : ℕ) (request : Request) (others : List Request) → 0 < passed
    → named_from (passed - 1) named others ≡ named_from passed named (request ∷ others)
named_passed zero named request others some = absurd (omega (arith, some))
named_passed (suc passed) named request others some =
    let one : suc passed - 1 ≡ passed = omega arith in
    ap (λ n. take named (drop n others)) one

take_none : (requests : List Request) → take 0 requests ≡ []
take_none [] = refl
take_none (request ∷ requests) = refl

pub named_none : (passed : ℕ) (request : Request) (others : List Request) → named_from passed 0 others ≡ named_from passed 0 (request ∷ others)
named_none passed request others = take_none (drop passed others) ∙ sym (take_none (drop passed (request ∷ others)))

pub named_next : (named : ℕ) (request : Request) (others made : List Request) → named ≢ 0
    → (made ++ request ∷ []) ++ named_from 0 (named - 1) others ≡ made ++ named_from 0 named (request ∷ others)
named_next zero request others made some = absurd (some refl)
named_next (suc named) request others made some =
    let one : suc named - 1 ≡ named = omega arith in
    append_assoc made (request ∷ []) (named_from 0 (suc named - 1) others)
    ∙ ap (λ n. made ++ (request ∷ take n others)) one

-- the request is past those that are named
pub added_none : (made : List Request) (passed named : ℕ) (request : Request) (others : List Request) → named ≡ 0
    → made ++ named_from passed named others ≡ made ++ named_from passed named (request ∷ others)
added_none made passed named request others none =
    ap (λ n. made ++ named_from passed n others) none
    ∙ ap (λ l. made ++ l) (named_none passed request others)
    ∙ ap (λ n. made ++ named_from passed n (request ∷ others)) (sym none)

-- the request is one of those that are named
pub added_next : (made now : List Request) (passed named : ℕ) (copy request : Request) (others : List Request) → passed ≡ 0 → named ≢ 0
    → now ≡ made ++ copy ∷ [] → copy ≡ request → now ++ named_from 0 (named - 1) others ≡ made ++ named_from passed named (request ∷ others)
added_next made now passed named copy request others none some added same =
    ap (λ l. l ++ named_from 0 (named - 1) others) (added ∙ ap (λ r. made ++ r ∷ []) same)
    ∙ named_next named request others made some
    ∙ ap (λ n. made ++ named_from n named (request ∷ others)) (sym none)

-- ---- one entry
pub entry_added : (entries : List Entry) (place : ℕ) (entry : Entry) (made now whole : List Request) (passed named passed' named' : ℕ)
    → place < length entries → entry ≡ get_or entries place entry
    → ((others : List Request) → now ++ named_from passed' named' others ≡ made ++ named_from passed named (with_served entry.what others))
    → made ++ named_from passed named (requests_in (drop place entries)) ≡ whole
    → now ++ named_from passed' named' (requests_in (drop (place + 1) entries)) ≡ whole
entry_added entries place entry made now whole passed named passed' named' within is step so_far =
    step (requests_in (drop (place + 1) entries))
    ∙ ap (λ l. made ++ named_from passed named (requests_in l)) (sym (from_place entries place entry within is))
    ∙ so_far

-- the last entry was looked at
pub entries_ended : (entries : List Entry) (place : ℕ) (made whole : List Request) (passed named : ℕ) → length entries ≤ place
    → made ++ named_from passed named (requests_in (drop place entries)) ≡ whole → made ≡ whole
entries_ended entries place made whole passed named past so_far =
    sym (append-nil made)
    ∙ ap (λ l. made ++ l) (sym (none_named passed named))
    ∙ ap (λ l. made ++ named_from passed named (requests_in l)) (sym (past_end entries place past))
    ∙ so_far
  where
    none_taken : (named : ℕ) → ◌≡◌ {A = List Request} (take named []) []
    none_taken zero = refl
    none_taken (suc n) = refl

    none_named : (passed named : ℕ) → named_from passed named [] ≡ []
    none_named zero named = none_taken named
    none_named (suc passed) named = none_taken named
