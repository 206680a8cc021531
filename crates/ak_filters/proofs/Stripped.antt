-- What is left of a text that was stripped.
use Rattle.std.proofs.Common.{◌≡◌, ℕ, zero, suc, ◌≤◌, Bool, true, false, not, ◌&&◌, ◌||◌, ◌==◌, cond, List, [], ◌∷◌, length, refl, ap, sym, ◌∙◌, arith}
use Rattle.std.specs.Prelude.{⊤, codes}
use Rattle.std.proofs.lemmas.Bool.{or_parts}
use Rattle.ak_base.specs.Cuts.{begins, has}
use Rattle.ak_filters.specs.Strips.{is_plain, removed, spaced, stripped}
use Rattle.ak_filters.proofs.Stripping.{plain_stays, unmarked_stays}

-- ---- no `<` is left with a `>` after it

abbrev Whole : List ℕ → Type 0
Whole [] = ⊤
Whole (b ∷ bs) = ((begins (codes "<") (b ∷ bs) && has (codes ">") bs) ≡ false) × Whole bs

whole_stays : (xs : List ℕ) → Whole xs → removed false xs ≡ xs
whole_stays [] h = refl
whole_stays (b ∷ bs) h = ap (λ v. cond v (removed true bs) (b ∷ removed false bs)) h.0 ∙ ap (λ ys. b ∷ ys) (whole_stays bs h.1)

no_end_after : (v w : Bool) → w ≡ false → (v && w) ≡ false
no_end_after true w h = h
no_end_after false w h = refl

no_end_stays : (xs : List ℕ) → has (codes ">") xs ≡ false → removed false xs ≡ xs
no_end_stays [] h = refl
no_end_stays (b ∷ bs) h =
    let later = (or_parts (begins (codes ">") (b ∷ bs)) (has (codes ">") bs) h).1 in
    ap (λ v. cond v (removed true bs) (b ∷ removed false bs)) (no_end_after (begins (codes "<") (b ∷ bs)) (has (codes ">") bs) later) ∙ ap (λ ys. b ∷ ys) (no_end_stays bs later)

kept_apart : (v w u : Bool) → (w ≡ false → u ≡ false) → (v && w) ≡ false → (v && u) ≡ false
kept_apart true w u f h = f h
kept_apart false w u f h = refl

removed_whole : (inside : Bool) (xs : List ℕ) → Whole (removed inside xs)
removed_whole inside [] = tt
removed_whole true (b ∷ bs) = elim (begins (codes ">") (b ∷ bs)) as (λ v. Whole (cond v (removed false bs) (removed true bs))) [ true ↦ removed_whole false bs | false ↦ removed_whole true bs ]
removed_whole false (b ∷ bs) = elim (begins (codes "<") (b ∷ bs) && has (codes ">") bs) as (λ v. (begins (codes "<") (b ∷ bs) && has (codes ">") bs) ≡ v → Whole (cond v (removed true bs) (b ∷ removed false bs))) [
  | true ↦ λ e. removed_whole true bs
  | false ↦ λ e. (kept_apart (begins (codes "<") (b ∷ bs)) (has (codes ">") bs) (has (codes ">") (removed false bs)) (λ h. ap (has (codes ">")) (no_end_stays bs h) ∙ h) e, removed_whole false bs)
] refl

-- a space in place of a mark brings no `>`
spaced_no_end : (n : ℕ) (xs : List ℕ) → has (codes ">") xs ≡ false → has (codes ">") (spaced n xs) ≡ false
spaced_no_end n [] h = refl
spaced_no_end (suc n) (b ∷ bs) h = spaced_no_end n bs (or_parts (begins (codes ">") (b ∷ bs)) (has (codes ">") bs) h).1
spaced_no_end zero (b ∷ bs) h =
    let both = or_parts (begins (codes ">") (b ∷ bs)) (has (codes ">") bs) h in
    elim (begins (codes "&nbsp;") (b ∷ bs)) as (λ v. has (codes ">") (cond v (32 ∷ spaced 5 bs) (b ∷ spaced 0 bs)) ≡ false) [
      | true ↦ spaced_no_end 5 bs both.1
      | false ↦ ap (λ v. v || has (codes ">") (spaced 0 bs)) both.0 ∙ spaced_no_end 0 bs both.1
    ]

spaced_whole : (n : ℕ) (xs : List ℕ) → Whole xs → Whole (spaced n xs)
spaced_whole n [] h = tt
spaced_whole (suc n) (b ∷ bs) h = spaced_whole n bs h.1
spaced_whole zero (b ∷ bs) h = elim (begins (codes "&nbsp;") (b ∷ bs)) as (λ v. Whole (cond v (32 ∷ spaced 5 bs) (b ∷ spaced 0 bs))) [
  | true ↦ (refl, spaced_whole 5 bs h.1)
  | false ↦ (kept_apart (begins (codes "<") (b ∷ bs)) (has (codes ">") bs) (has (codes ">") (spaced 0 bs)) (spaced_no_end 0 bs) h.0, spaced_whole 0 bs h.1)
]

-- ---- no `&nbsp;` is left

no_space : (sign : ℕ) (v : Bool) → ((32 == sign) && true) ≡ false → ((sign == 32) && v) ≡ true → ⊥
no_space sign v n h = grind (arith, n, h)

both_true : (sign b : ℕ) (v : Bool) → ((sign == b) && v) ≡ true → (sign ≡ b) × (v ≡ true)
both_true sign b v h = (grind (arith, h), grind (arith, h))

both_from : (sign b : ℕ) (v : Bool) → sign ≡ b → v ≡ true → ((sign == b) && v) ≡ true
both_from sign b v h k = grind (arith, h, k)

-- a mark without spaces that begins what was made began the text
begun_before : (mark xs : List ℕ) → has (codes " ") mark ≡ false → begins mark (spaced 0 xs) ≡ true → begins mark xs ≡ true
begun_before [] xs n h = refl
begun_before (sign ∷ mark) [] n h = h
begun_before (sign ∷ mark) (b ∷ bs) n h =
    let both = or_parts (begins (codes " ") (sign ∷ mark)) (has (codes " ") mark) n in
    elim (begins (codes "&nbsp;") (b ∷ bs)) as (λ v. begins (sign ∷ mark) (cond v (32 ∷ spaced 5 bs) (b ∷ spaced 0 bs)) ≡ true → begins (sign ∷ mark) (b ∷ bs) ≡ true) [
      | true ↦ λ e. absurd (no_space sign (begins mark (spaced 5 bs)) both.0 e)
      | false ↦ λ e. (let parts = both_true sign b (begins mark (spaced 0 bs)) e in both_from sign b (begins mark bs) parts.0 (begun_before mark bs both.1 parts.1))
    ] h

still_begun : (b : ℕ) (bs : List ℕ) → begins (codes "&nbsp;") (b ∷ spaced 0 bs) ≡ true → begins (codes "&nbsp;") (b ∷ bs) ≡ true
still_begun b bs h =
    let parts = both_true 38 b (begins (codes "nbsp;") (spaced 0 bs)) h in
    both_from 38 b (begins (codes "nbsp;") bs) parts.0 (begun_before (codes "nbsp;") bs refl parts.1)

not_begun_now : (b : ℕ) (bs : List ℕ) → begins (codes "&nbsp;") (b ∷ bs) ≡ false → begins (codes "&nbsp;") (b ∷ spaced 0 bs) ≡ false
not_begun_now b bs h = elim (begins (codes "&nbsp;") (b ∷ spaced 0 bs)) as (λ v. begins (codes "&nbsp;") (b ∷ spaced 0 bs) ≡ v → v ≡ false) [ true ↦ λ e. sym (still_begun b bs e) ∙ h | false ↦ λ e. refl ] refl

none_marked : (n : ℕ) (xs : List ℕ) → has (codes "&nbsp;") (spaced n xs) ≡ false
none_marked n [] = refl
none_marked (suc n) (b ∷ bs) = none_marked n bs
none_marked zero (b ∷ bs) = elim (begins (codes "&nbsp;") (b ∷ bs)) as (λ v. begins (codes "&nbsp;") (b ∷ bs) ≡ v → has (codes "&nbsp;") (cond v (32 ∷ spaced 5 bs) (b ∷ spaced 0 bs)) ≡ false) [
  | true ↦ λ e. none_marked 5 bs
  | false ↦ λ e. ap (λ v. v || has (codes "&nbsp;") (spaced 0 bs)) (not_begun_now b bs e) ∙ none_marked 0 bs
] refl

-- ---- the whole

pub stripped_again : (text : List ℕ) → stripped (stripped text) ≡ stripped text
stripped_again text = ap (spaced 0) (whole_stays (stripped text) (spaced_whole 0 (removed false text) (removed_whole false text))) ∙ unmarked_stays (stripped text) (none_marked 0 (removed false text))

pub plain_kept : (text : List ℕ) → has (codes "<") text ≡ false → has (codes "&nbsp;") text ≡ false → stripped text ≡ text
plain_kept text h k = ap (spaced 0) (plain_stays text h) ∙ unmarked_stays text k

-- the first byte begins neither a piece nor a mark, and the rest is plain too
plain_parts : (b : ℕ) (mark rest : Bool) → (not ((b == 60) || (b == 38)) && rest) ≡ true → (((60 == b) && true) ≡ false) × ((((38 == b) && mark) ≡ false) × (rest ≡ true))
plain_parts b mark rest h = (grind (arith, h), (grind (arith, h), grind (arith, h)))

has_none : (text : List ℕ) → is_plain text ≡ true → (has (codes "<") text ≡ false) × (has (codes "&nbsp;") text ≡ false)
has_none [] h = (refl, refl)
has_none (b ∷ bs) h =
    let parts = plain_parts b (begins (codes "nbsp;") bs) (is_plain bs) h in
    let later = has_none bs parts.1.1 in
    (ap (λ v. v || has (codes "<") bs) parts.0 ∙ later.0, ap (λ v. v || has (codes "&nbsp;") bs) parts.1.0 ∙ later.1)

pub plain_stripped : (text : List ℕ) → is_plain text ≡ true → stripped text ≡ text
plain_stripped text h = plain_kept text (has_none text h).0 (has_none text h).1

-- ---- nothing grows

removed_length : (inside : Bool) (xs : List ℕ) → length (removed inside xs) ≤ length xs
removed_length inside [] = omega arith
removed_length true (b ∷ bs) = elim (begins (codes ">") (b ∷ bs)) as (λ v. length (cond v (removed false bs) (removed true bs)) ≤ length (b ∷ bs)) [ true ↦ omega (arith, removed_length false bs) | false ↦ omega (arith, removed_length true bs) ]
removed_length false (b ∷ bs) = elim (begins (codes "<") (b ∷ bs) && has (codes ">") bs) as (λ v. length (cond v (removed true bs) (b ∷ removed false bs)) ≤ length (b ∷ bs)) [ true ↦ omega (arith, removed_length true bs) | false ↦ omega (arith, removed_length false bs) ]

spaced_length : (n : ℕ) (xs : List ℕ) → length (spaced n xs) ≤ length xs
spaced_length n [] = omega arith
spaced_length (suc n) (b ∷ bs) = omega (arith, spaced_length n bs)
spaced_length zero (b ∷ bs) = elim (begins (codes "&nbsp;") (b ∷ bs)) as (λ v. length (cond v (32 ∷ spaced 5 bs) (b ∷ spaced 0 bs)) ≤ length (b ∷ bs)) [ true ↦ omega (arith, spaced_length 5 bs) | false ↦ omega (arith, spaced_length 0 bs) ]

pub stripped_length : (text : List ℕ) → length (stripped text) ≤ length text
stripped_length text = omega (arith, spaced_length 0 (removed false text), removed_length false text)
