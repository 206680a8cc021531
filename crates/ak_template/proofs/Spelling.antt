-- A tag or a cloze that is written after words without one is read where it stands.
use Rattle.std.proofs.Common.{◌≡◌, ℕ, ◌+◌, ◌-◌, ◌*◌, ◌/◌, ◌%◌, ◌^◌, ◌<◌, ◌≤◌, ◌==◌, ◌&&◌, nat_lt, true, false, cond, Option, Some, None, List, [], ◌∷◌, ◌++◌, length, map, drop, append_assoc, refl, ap, sym, ◌∙◌, arith}
use Rattle.std.specs.Prelude.{codes}
use Rattle.std.specs.Fmt.{decimal}
use Rattle.std.proofs.lemmas.Bool.{or_parts, lt-ltb}
use Rattle.std.proofs.lemmas.Bool.Decides.{nat_tests}
use Rattle.std.proofs.lemmas.Fmt.{decimal_by_steps}
use Rattle.std.proofs.lemmas.List.{map-append}
use Rattle.std.proofs.Math.Bool.{and-false}
use Rattle.ak_base.specs.Cuts.{begins, has, front, behind}
use Rattle.ak_template.specs.declared.clozes.Part.{Part}
use Rattle.ak_template.specs.declared.clozes.Part.TheVariants.{Bare, Gap}
use Rattle.ak_template.specs.Clozes.{is_number, number_at, marked, mark_parts, left_in, parts}
use Rattle.ak_template.specs.Pieces.{Piece, has_tag, before_tag, inside_tag, behind_tag, trimmed, tag_of, words_at, pieces_in, pieces}
use Rattle.ak_template.proofs.Clozing.{number_ends, parts_step}
use Rattle.ak_template.proofs.Parsing.{pieces_step, pieces_last}
use Rattle.ak_template.proofs.Writing.{IsCut, cut_at_front, cut_later, words_bare, pieces_bare}

-- ---- where a mark stands first

-- a mark of twice the same sign, after words with which it doesn't begin earlier
pub cut_here : (sign : ℕ) (words rest : List ℕ) → has (sign ∷ (sign ∷ [])) (words ++ (sign ∷ [])) ≡ false → IsCut (sign ∷ (sign ∷ [])) (words ++ (sign ∷ (sign ∷ rest))) words rest
cut_here sign [] rest h = cut_at_front sign (sign ∷ []) rest
cut_here sign (b ∷ []) rest h =
    let both = or_parts (begins (sign ∷ (sign ∷ [])) (b ∷ (sign ∷ []))) (has (sign ∷ (sign ∷ [])) (sign ∷ [])) h in
    cut_later (sign ∷ (sign ∷ [])) b (sign ∷ (sign ∷ rest)) [] rest both.0 (cut_here sign [] rest both.1)
cut_here sign (b ∷ (c ∷ cs)) rest h =
    let both = or_parts (begins (sign ∷ (sign ∷ [])) (b ∷ (c ∷ (cs ++ (sign ∷ []))))) (has (sign ∷ (sign ∷ [])) (c ∷ (cs ++ (sign ∷ [])))) h in
    cut_later (sign ∷ (sign ∷ [])) b (c ∷ (cs ++ (sign ∷ (sign ∷ rest)))) (c ∷ cs) rest both.0 (cut_here sign (c ∷ cs) rest both.1)

-- the mark of a cloze, after words without one
cut_cloze : (words rest : List ℕ) → has (codes "{{c") words ≡ false → IsCut (codes "{{c") (words ++ (codes "{{c" ++ rest)) words rest
cut_cloze [] rest h = cut_at_front 123 (123 ∷ (99 ∷ [])) rest
cut_cloze (b ∷ []) rest h = cut_later (codes "{{c") b (codes "{{c" ++ rest) [] rest (and-false (123 == b)) (cut_cloze [] rest refl)
cut_cloze (b ∷ (c ∷ [])) rest h =
    let both = or_parts (begins (codes "{{c") (b ∷ (c ∷ []))) (has (codes "{{c") (c ∷ [])) h in
    cut_later (codes "{{c") b (c ∷ (codes "{{c" ++ rest)) (c ∷ []) rest (ap (λ v. (123 == b) && v) (and-false (123 == c)) ∙ and-false (123 == b)) (cut_cloze (c ∷ []) rest both.1)
cut_cloze (b ∷ (c ∷ (d ∷ ds))) rest h =
    let both = or_parts (begins (codes "{{c") (b ∷ (c ∷ (d ∷ ds)))) (has (codes "{{c") (c ∷ (d ∷ ds))) h in
    cut_later (codes "{{c") b (c ∷ (d ∷ (ds ++ (codes "{{c" ++ rest)))) (c ∷ (d ∷ ds)) rest both.0 (cut_cloze (c ∷ (d ∷ ds)) rest both.1)

-- ---- a cloze

-- one more digit of its number
one_digit : (number digit : ℕ) (rest : List ℕ) → digit < 10 → 0 < number * 10 + digit → number * 10 + digit < 501 → number_at number ((48 + digit) ∷ rest) ≡ number_at (number * 10 + digit) rest
one_digit number digit rest few some low =
    let other : begins (codes "::") ((48 + digit) ∷ rest) ≡ false = not_colon digit few rest in
    let is_digit : (nat_lt 47 (48 + digit) && nat_lt (48 + digit) 58) ≡ true = in_digits digit few in
    let value : (48 + digit) - 48 ≡ digit = omega arith in
    let good : is_number (number * 10 + digit) ≡ true = in_numbers (number * 10 + digit) some low in
    ap (λ v. cond v (cond (nat_lt 0 number) (Some (number, drop 1 rest)) None) (cond (nat_lt 47 (48 + digit) && nat_lt (48 + digit) 58) (cond (is_number (number * 10 + ((48 + digit) - 48))) (number_at (number * 10 + ((48 + digit) - 48)) rest) None) None)) other
    ∙ ap (λ v. cond v (cond (is_number (number * 10 + ((48 + digit) - 48))) (number_at (number * 10 + ((48 + digit) - 48)) rest) None) None) is_digit
    ∙ ap (λ d. cond (is_number (number * 10 + d)) (number_at (number * 10 + d) rest) None) value
    ∙ ap (λ v. cond v (number_at (number * 10 + digit) rest) None) good
  where
    not_colon : (digit : ℕ) → digit < 10 → (rest : List ℕ) → begins (codes "::") ((48 + digit) ∷ rest) ≡ false
    not_colon digit few rest =
        let no : (58 == 48 + digit) ≡ false = grind (arith, nat_tests, few) in ap (λ v. v && begins (codes ":") rest) no

    in_digits : (digit : ℕ) → digit < 10 → (nat_lt 47 (48 + digit) && nat_lt (48 + digit) 58) ≡ true
    in_digits digit few = grind (arith, nat_tests, few)

    in_numbers : (n : ℕ) → 0 < n → n < 501 → is_number n ≡ true
    in_numbers n some low = grind (arith, nat_tests, some, low)

-- the digits of a number are read as that number
abbrev AreRead : ℕ → List ℕ → Type 0
AreRead n digits = 0 < n → n < 501 → (rest : List ℕ) → number_at 0 (digits ++ rest) ≡ number_at n rest

all_digits : (n : ℕ) → n < 2 ^ 64 → AreRead n (decimal n)
all_digits n = decimal_by_steps AreRead one more n
  where
    one : (n : ℕ) → n < 10 → AreRead n ((48 + n) ∷ [])
    one n few some low rest =
        let same : 0 * 10 + n ≡ n = omega arith in
        one_digit 0 n rest few (omega (arith, some)) (omega (arith, low)) ∙ ap (λ m. number_at m rest) same

    more : (n : ℕ) (digits : List ℕ) → 10 ≤ n → AreRead (n / 10) digits → AreRead n (digits ++ ((48 + n % 10) ∷ []))
    more n digits many read some low rest =
        let same : n / 10 * 10 + n % 10 ≡ n = omega arith in
        ap (number_at 0) (append_assoc digits ((48 + n % 10) ∷ []) rest)
        ∙ read (omega (arith, many)) (omega (arith, low)) ((48 + n % 10) ∷ rest)
        ∙ one_digit (n / 10) (n % 10) rest (omega arith) (omega (arith, some)) (omega (arith, low))
        ∙ ap (λ m. number_at m rest) same

number_read : (n : ℕ) (rest : List ℕ) → 0 < n → n < 501 → number_at 0 (decimal n ++ (codes "::" ++ rest)) ≡ Some (n, rest)
number_read n rest some low =
    all_digits n (omega (arith, low)) some low (codes "::" ++ rest) ∙ number_ends n (codes "::" ++ rest) refl ∙ ap (λ v. cond v (Some (n, rest)) None) (lt-ltb 0 n some)

gap_read : (n : ℕ) (text inside after : List ℕ) → has (codes "}}") (inside ++ codes "}") ≡ false
    → ◌≡◌ {A = List Part} ((marked (Some (n, inside ++ (codes "}}" ++ after))) text).0 ++ left_in parts (marked (Some (n, inside ++ (codes "}}" ++ after))) text).1) (Gap n inside ∷ parts after)
gap_read n text inside after h =
    let end = cut_here 125 inside after h in
    let rest = inside ++ (codes "}}" ++ after) in
    ap (λ v. (cond {A = List Part × Option (List ℕ)} v (Gap n (front (codes "}}") rest) ∷ [], Some (behind (codes "}}") rest)) (Bare (codes "{{c") ∷ (Bare text ∷ []), None)).0 ++ left_in parts (cond {A = List Part × Option (List ℕ)} v (Gap n (front (codes "}}") rest) ∷ [], Some (behind (codes "}}") rest)) (Bare (codes "{{c") ∷ (Bare text ∷ []), None)).1) end.0
    ∙ ap (λ xs. Gap n xs ∷ parts (behind (codes "}}") rest)) end.1
    ∙ ap (λ xs. Gap n inside ∷ parts xs) end.2

pub cloze_read : (before inside after : List ℕ) (n : ℕ) → 0 < n → n < 501 → has (codes "{{c") before ≡ false → has (codes "}}") (inside ++ codes "}") ≡ false
    → parts (before ++ (codes "{{c" ++ (decimal n ++ (codes "::" ++ (inside ++ (codes "}}" ++ after)))))) ≡ Bare before ∷ (Gap n inside ∷ parts after)
cloze_read before inside after n some low none ends =
    let rest = inside ++ (codes "}}" ++ after) in
    let marks = decimal n ++ (codes "::" ++ rest) in
    let text = before ++ (codes "{{c" ++ marks) in
    let start = cut_cloze before marks none in
    parts_step text start.0
    ∙ ap (λ xs. Bare xs ∷ ((mark_parts (behind (codes "{{c") text)).0 ++ left_in parts (mark_parts (behind (codes "{{c") text)).1)) start.1
    ∙ ap (λ xs. Bare before ∷ ((mark_parts xs).0 ++ left_in parts (mark_parts xs).1)) start.2
    ∙ ap (λ found. Bare before ∷ ((marked found marks).0 ++ left_in parts (marked found marks).1)) (number_read n rest some low)
    ∙ ap (λ ps. Bare before ∷ ps) (gap_read n marks inside after ends)

-- ---- a tag

pub tag_read : (words inside after : List ℕ) → has (codes "{{") (words ++ codes "{") ≡ false → has (codes "}}") (inside ++ codes "}") ≡ false
    → map (λ (p : Piece). p.1) (pieces (words ++ (codes "{{" ++ (inside ++ (codes "}}" ++ after)))))
    ≡ map (λ (p : Piece). p.1) (words_at 0 words) ++ (tag_of (trimmed inside) ∷ map (λ (p : Piece). p.1) (pieces after))
tag_read words inside after opens ends =
    let text = words ++ (codes "{{" ++ (inside ++ (codes "}}" ++ after))) in
    let start = cut_here 123 words (inside ++ (codes "}}" ++ after)) opens in
    let end = cut_here 125 inside after ends in
    let is_tag : has_tag text ≡ true = ap (has (codes "}}")) start.2 ∙ end.0 in
    let middle : inside_tag text ≡ inside = ap (front (codes "}}")) start.2 ∙ end.1 in
    let others : behind_tag text ≡ after = ap (behind (codes "}}")) start.2 ∙ end.2 in
    ap (map (λ (p : Piece). p.1)) (pieces_step (length text) text is_tag)
    ∙ map-append (λ (p : Piece). p.1) (words_at (length text - length text) (before_tag text)) ((length text - length text + length (before_tag text), tag_of (trimmed (inside_tag text))) ∷ pieces_in (length (behind_tag text)) (length text) (behind_tag text))
    ∙ ap (λ xs. xs ++ (tag_of (trimmed (inside_tag text)) ∷ map (λ (p : Piece). p.1) (pieces_in (length (behind_tag text)) (length text) (behind_tag text)))) (words_anywhere (length text - length text) (before_tag text) words start.1)
    ∙ ap (λ xs. map (λ (p : Piece). p.1) (words_at 0 words) ++ (tag_of (trimmed xs) ∷ map (λ (p : Piece). p.1) (pieces_in (length (behind_tag text)) (length text) (behind_tag text)))) middle
    ∙ ap (λ xs. map (λ (p : Piece). p.1) (words_at 0 words) ++ (tag_of (trimmed inside) ∷ map (λ (p : Piece). p.1) (pieces_in (length xs) (length text) xs))) others
    ∙ ap (λ xs. map (λ (p : Piece). p.1) (words_at 0 words) ++ (tag_of (trimmed inside) ∷ xs)) (pieces_bare (length after) (length text) after ∙ sym (pieces_bare (length after) (length after) after))
  where
    words_anywhere : (place : ℕ) (text words : List ℕ) → text ≡ words → map (λ (p : Piece). p.1) (words_at place text) ≡ map (λ (p : Piece). p.1) (words_at 0 words)
    words_anywhere place text words same = words_bare place text ∙ sym (words_bare 0 text) ∙ ap (λ xs. map (λ (p : Piece). p.1) (words_at 0 xs)) same

pub words_read : (text : List ℕ) → has_tag text ≡ false → pieces text ≡ words_at 0 text
words_read text none =
    let start : length text - length text ≡ 0 = omega arith in pieces_last (length text) text none ∙ ap (λ place. words_at place text) start
