-- Where a sign of one byte stands in a text.
use Rattle.std.proofs.Common.{◌≡◌, ℕ, zero, suc, ◌+◌, ◌<◌, ◌≤◌, Bool, true, false, ◌&&◌, ◌||◌, ◌==◌, cond, Option, Some, None, IfSome, IfNone, List, [], ◌∷◌, ◌++◌, length, take, drop, refl, ap, sym, ◌∙◌, arith}
use Rattle.std.specs.Option.{MatchOption}
use Rattle.std.specs.Str.Pattern.{RFindsText}
use Rattle.std.proofs.lemmas.Bool.{or_parts}
use denote.Ref.{Bor}
use Rattle.ak_base.specs.Cuts.{has, front, behind}
use Rattle.ak_base.proofs.Cutting.{lacking}

same_byte : (c : ℕ) → (c == c) ≡ true
same_byte c = grind arith

or_true : (v : Bool) → (v || true) ≡ true
or_true true = refl
or_true false = refl

-- in a text that is cut by hand the sign is there, and both parts are as they were
pub has_at : (c : ℕ) (xs ys : List ℕ) → has (c ∷ []) (xs ++ (c ∷ ys)) ≡ true
has_at c [] ys = ap (λ v. (v && true) || has (c ∷ []) ys) (same_byte c)
has_at c (b ∷ bs) ys = ap (λ v. ((c == b) && true) || v) (has_at c bs ys) ∙ or_true ((c == b) && true)

pub front_at : (c : ℕ) (xs ys : List ℕ) → has (c ∷ []) xs ≡ false → front (c ∷ []) (xs ++ (c ∷ ys)) ≡ xs
front_at c [] ys h = ap (λ v. cond (v && true) [] (c ∷ front (c ∷ []) ys)) (same_byte c)
front_at c (b ∷ bs) ys h =
    let both = or_parts ((c == b) && true) (has (c ∷ []) bs) h in
    ap (λ v. cond v [] (b ∷ front (c ∷ []) (bs ++ (c ∷ ys)))) both.0 ∙ ap (λ zs. b ∷ zs) (front_at c bs ys both.1)

pub behind_at : (c : ℕ) (xs ys : List ℕ) → has (c ∷ []) xs ≡ false → behind (c ∷ []) (xs ++ (c ∷ ys)) ≡ ys
behind_at c [] ys h = ap (λ v. cond (v && true) ys (behind (c ∷ []) ys)) (same_byte c)
behind_at c (b ∷ bs) ys h =
    let both = or_parts ((c == b) && true) (has (c ∷ []) bs) h in
    ap (λ v. cond v (bs ++ (c ∷ ys)) (behind (c ∷ []) (bs ++ (c ∷ ys)))) both.0 ∙ behind_at c bs ys both.1

-- another byte is no sign
pub front_over : (c d : ℕ) (xs ys : List ℕ) → (c == d) ≡ false → has (c ∷ []) xs ≡ false → front (c ∷ []) (xs ++ (d ∷ ys)) ≡ xs ++ (d ∷ front (c ∷ []) ys)
front_over c d [] ys n h = ap (λ v. cond (v && true) [] (d ∷ front (c ∷ []) ys)) n
front_over c d (b ∷ bs) ys n h =
    let both = or_parts ((c == b) && true) (has (c ∷ []) bs) h in
    ap (λ v. cond v [] (b ∷ front (c ∷ []) (bs ++ (d ∷ ys)))) both.0 ∙ ap (λ zs. b ∷ zs) (front_over c d bs ys n both.1)

pub front_lacks : (c : ℕ) (xs : List ℕ) → has (c ∷ []) (front (c ∷ []) xs) ≡ false
front_lacks c [] = refl
front_lacks c (b ∷ bs) = elim ((c == b) && true) as (λ v. ((c == b) && true) ≡ v → has (c ∷ []) (cond v [] (b ∷ front (c ∷ []) bs)) ≡ false) [
  | true ↦ λ e. refl
  | false ↦ λ e. ap (λ v. v || has (c ∷ []) (front (c ∷ []) bs)) e ∙ front_lacks c bs
] refl

pub cut_whole : (c : ℕ) (xs : List ℕ) → has (c ∷ []) xs ≡ true → xs ≡ front (c ∷ []) xs ++ (c ∷ behind (c ∷ []) xs)
cut_whole c [] h = grind (arith, h)
cut_whole c (b ∷ bs) h = elim (c == b) as (λ v. (c == b) ≡ v → ((v && true) || has (c ∷ []) bs) ≡ true → b ∷ bs ≡ cond (v && true) [] (b ∷ front (c ∷ []) bs) ++ (c ∷ cond (v && true) bs (behind (c ∷ []) bs))) [
  | true ↦ λ e k. (let s : b ≡ c = grind (arith, e) in ap (λ x. x ∷ bs) s)
  | false ↦ λ e k. ap (λ ys. b ∷ ys) (cut_whole c bs k)
] refl h

-- what is behind one sign has no other one, if the text has none
pub behind_lacks : (c d : ℕ) (xs : List ℕ) → has (c ∷ []) xs ≡ false → has (c ∷ []) (behind (d ∷ []) xs) ≡ false
behind_lacks c d [] h = refl
behind_lacks c d (b ∷ bs) h =
    let both = or_parts ((c == b) && true) (has (c ∷ []) bs) h in
    elim ((d == b) && true) as (λ v. has (c ∷ []) (cond v bs (behind (d ∷ []) bs)) ≡ false) [ true ↦ both.1 | false ↦ behind_lacks c d bs both.1 ]

pub front_lacks_other : (c d : ℕ) (xs : List ℕ) → has (c ∷ []) xs ≡ false → has (c ∷ []) (front (d ∷ []) xs) ≡ false
front_lacks_other c d [] h = refl
front_lacks_other c d (b ∷ bs) h =
    let both = or_parts ((c == b) && true) (has (c ∷ []) bs) h in
    elim ((d == b) && true) as (λ v. has (c ∷ []) (cond v [] (b ∷ front (d ∷ []) bs)) ≡ false) [ true ↦ refl | false ↦ ap (λ v. v || has (c ∷ []) (front (d ∷ []) bs)) both.0 ∙ front_lacks_other c d bs both.1 ]

-- the end of a text without a sign has none, and nor has its beginning
pub end_lacks : (c : ℕ) (xs ys : List ℕ) → has (c ∷ []) (xs ++ ys) ≡ false → has (c ∷ []) ys ≡ false
end_lacks c [] ys h = h
end_lacks c (b ∷ bs) ys h = end_lacks c bs ys (or_parts ((c == b) && true) (has (c ∷ []) (bs ++ ys)) h).1

pub begin_lacks : (c : ℕ) (xs ys : List ℕ) → has (c ∷ []) (xs ++ ys) ≡ false → has (c ∷ []) xs ≡ false
begin_lacks c [] ys h = refl
begin_lacks c (b ∷ bs) ys h =
    let both = or_parts ((c == b) && true) (has (c ∷ []) (bs ++ ys)) h in
    ap (λ v. v || has (c ∷ []) bs) both.0 ∙ begin_lacks c bs ys both.1

-- ---- the last place of a text that is searched for

drop_nothing : (i : ℕ) → drop {A = ℕ} i [] ≡ []
drop_nothing zero = refl
drop_nothing (suc i) = refl

drop_twice : (i j : ℕ) (xs : List ℕ) → drop i (drop j xs) ≡ drop (j + i) xs
drop_twice i zero xs = let e : 0 + i ≡ i = omega arith in sym (ap (λ n. drop n xs) e)
drop_twice i (suc j) [] = drop_nothing i ∙ sym (drop_nothing (suc j + i))
drop_twice i (suc j) (x ∷ xs) = let e : suc j + i ≡ suc (j + i) = omega arith in drop_twice i j xs ∙ sym (ap (λ n. drop n (x ∷ xs)) e)

-- the clause of `rsplit_once` at a text
abbrev pub LastParts : List ℕ → List ℕ → Option (Bor (List ℕ) × Bor (List ℕ)) → Type 0
LastParts mark bytes r = MatchOption r (RFindsText mark bytes None) (λ x. (i : ℕ) × (j : ℕ) × RFindsText mark bytes (Some (i, j)) × (x.0.now ≡ take i bytes) × (x.1.now ≡ drop j bytes) × (i ≤ j) × (length x.0.now ≡ i) × (length x.1.now + j ≡ length bytes))

pub last_lacks : (mark bytes : List ℕ) (r : Option (Bor (List ℕ) × Bor (List ℕ))) → 0 < length mark → LastParts mark bytes r → IfSome r (λ parts. has mark parts.1.now ≡ false)
last_lacks mark bytes None n h = tt
last_lacks mark bytes (Some x) n h =
    let ends = h.2.1.ends in
    let at = h.4 in
    let long = h.7 in
    ap (has mark) at ∙ lacking mark (drop h.1 bytes) (λ k l rest e. h.2.0 (h.1 + k) (omega (arith, ends, n)) (omega (arith, l, long, ap length at)) rest (sym (drop_twice k h.1 bytes) ∙ e))

pub last_none : (mark bytes : List ℕ) (r : Option (Bor (List ℕ) × Bor (List ℕ))) → LastParts mark bytes r → IfNone r (has mark bytes ≡ false)
last_none mark bytes None h = lacking mark bytes h
last_none mark bytes (Some x) h = tt
