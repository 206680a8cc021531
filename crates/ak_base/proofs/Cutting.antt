-- Where a mark stands first.
use Rattle.std.proofs.Common.{◌≡◌, ℕ, zero, suc, ◌+◌, ◌<◌, ◌≤◌, true, false, ◌||◌, cond, Option, Some, None, IfSome, IfNone, List, [], ◌∷◌, ◌++◌, length, take, drop, refl, ap, sym, ◌∙◌, arith}
use Rattle.std.specs.Option.{MatchOption}
use Rattle.std.specs.Str.Pattern.{LacksTextAt, FindsText}
use Rattle.std.proofs.Math.Seq.{drop-append_seam}
use denote.Ref.{Bor}
use Rattle.ak_base.specs.Cuts.{begins, has, front, behind}

pub begins_itself : (mark rest : List ℕ) → begins mark (mark ++ rest) ≡ true
begins_itself [] rest = refl
begins_itself (sign ∷ mark) rest = grind (arith, begins_itself mark rest)

pub begins_with : (mark bytes : List ℕ) → begins mark bytes ≡ true → (rest : List ℕ) × (bytes ≡ mark ++ rest)
begins_with [] bytes h = (bytes, refl)
begins_with (sign ∷ mark) [] h = grind (arith, h)
begins_with (sign ∷ mark) (byte ∷ bytes) h =
    let both : (sign ≡ byte) × (begins mark bytes ≡ true) = grind arith in
    let rest = begins_with mark bytes both.1 in
    (rest.0, ap (λ b. b ∷ bytes) (sym both.0) ∙ ap (λ bs. sign ∷ bs) rest.1)

not_begun : (mark bytes : List ℕ) → ((rest : List ℕ) → bytes ≡ mark ++ rest → ⊥) → begins mark bytes ≡ false
not_begun mark bytes lacks = elim (begins mark bytes) as (λ v. begins mark bytes ≡ v → v ≡ false) [ true ↦ λ h. absurd (let found = begins_with mark bytes h in lacks found.0 found.1) | false ↦ λ h. refl ] refl

pub found : (mark bytes rest : List ℕ) (i : ℕ) → 0 < length mark → ((k : ℕ) → k < i → LacksTextAt mark bytes k) → drop i bytes ≡ mark ++ rest → (has mark bytes ≡ true) × (front mark bytes ≡ take i bytes) × (behind mark bytes ≡ rest)
found [] [] rest i n lacks e = absurd (omega (arith, n))
found (sign ∷ mark) [] rest zero n lacks e = grind (arith, e)
found (sign ∷ mark) [] rest (suc i) n lacks e = grind (arith, e)
found mark (byte ∷ bytes) rest zero n lacks e =
    let yes : begins mark (byte ∷ bytes) ≡ true = ap (begins mark) e ∙ begins_itself mark rest in
    (ap (λ v. v || has mark bytes) yes, ap (λ v. cond v [] (byte ∷ front mark bytes)) yes, ap (λ v. cond v (drop (length mark) (byte ∷ bytes)) (behind mark bytes)) yes ∙ ap (drop (length mark)) e ∙ drop-append_seam mark rest)
found mark (byte ∷ bytes) rest (suc i) n lacks e =
    let no : begins mark (byte ∷ bytes) ≡ false = not_begun mark (byte ∷ bytes) (lacks 0 (omega arith)) in
    let later = found mark bytes rest i n (λ k l. lacks (suc k) (omega arith)) e in
    (ap (λ v. v || has mark bytes) no ∙ later.0, ap (λ v. cond v [] (byte ∷ front mark bytes)) no ∙ ap (λ xs. byte ∷ xs) later.1, ap (λ v. cond v (drop (length mark) (byte ∷ bytes)) (behind mark bytes)) no ∙ later.2)

pub lacking : (mark bytes : List ℕ) → ((i : ℕ) → i ≤ length bytes → LacksTextAt mark bytes i) → has mark bytes ≡ false
lacking mark [] lacks = refl
lacking mark (byte ∷ bytes) lacks =
    let no : begins mark (byte ∷ bytes) ≡ false = not_begun mark (byte ∷ bytes) (lacks 0 (omega arith)) in
    ap (λ v. v || has mark bytes) no ∙ lacking mark bytes (λ i l. lacks (suc i) (omega arith))

-- the clause of `split_once` at a text
abbrev pub Parts : List ℕ → List ℕ → Option (Bor (List ℕ) × Bor (List ℕ)) → Type 0
Parts mark bytes r = MatchOption r (FindsText mark bytes None) (λ x. (i : ℕ) × (j : ℕ) × FindsText mark bytes (Some (i, j)) × (x.0.now ≡ take i bytes) × (x.1.now ≡ drop j bytes) × (i ≤ j) × (length x.0.now ≡ i) × (length x.1.now + j ≡ length bytes))

pub parts_has : (mark bytes : List ℕ) (r : Option (Bor (List ℕ) × Bor (List ℕ))) → 0 < length mark → Parts mark bytes r → IfSome r (λ parts. has mark bytes ≡ true)
parts_has mark bytes None n h = tt
parts_has mark bytes (Some x) n h = (found mark bytes (drop h.1 bytes) h.0 n h.2.0 h.2.1.split).0

pub parts_front : (mark bytes : List ℕ) (r : Option (Bor (List ℕ) × Bor (List ℕ))) → 0 < length mark → Parts mark bytes r → IfSome r (λ parts. parts.0.now ≡ front mark bytes)
parts_front mark bytes None n h = tt
parts_front mark bytes (Some x) n h = h.3 ∙ sym (found mark bytes (drop h.1 bytes) h.0 n h.2.0 h.2.1.split).1

pub parts_behind : (mark bytes : List ℕ) (r : Option (Bor (List ℕ) × Bor (List ℕ))) → 0 < length mark → Parts mark bytes r → IfSome r (λ parts. parts.1.now ≡ behind mark bytes)
parts_behind mark bytes None n h = tt
parts_behind mark bytes (Some x) n h = h.4 ∙ sym (found mark bytes (drop h.1 bytes) h.0 n h.2.0 h.2.1.split).2

pub parts_length : (mark bytes : List ℕ) (r : Option (Bor (List ℕ) × Bor (List ℕ))) → Parts mark bytes r → IfSome r (λ parts. length parts.0.now + length mark + length parts.1.now ≡ length bytes)
parts_length mark bytes None h = tt
parts_length mark bytes (Some x) h = let e = h.2.1.ends in let a = h.6 in let b = h.7 in omega arith

pub parts_none : (mark bytes : List ℕ) (r : Option (Bor (List ℕ) × Bor (List ℕ))) → Parts mark bytes r → IfNone r (has mark bytes ≡ false)
parts_none mark bytes None h = lacking mark bytes h
parts_none mark bytes (Some x) h = tt
