-- Readings are found at the brackets of a text.
use Rattle.std.proofs.Common.{◌≡◌, ℕ, zero, suc, ◌+◌, ◌-◌, ◌<◌, ◌≤◌, Bool, true, false, not, ◌&&◌, ◌||◌, ◌==◌, cond, ◌⊎◌, inl, inr, Result, Ok, Err, OnOk, List, [], ◌∷◌, ◌++◌, length, take, drop, append_assoc, length-append, refl, ap, sym, ◌∙◌, arith}
use Rattle.std.specs.Prelude.{codes}
use Rattle.std.specs.List.{list_all}
use Rattle.std.proofs.lemmas.Bool.{or_parts}
use Rattle.std.proofs.Math.Bool.{and-false}
use Rattle.std.proofs.Math.Seq.{take-append_seam, drop-append_seam}
use Rattle.ak_base.specs.Cuts.{begins, has, front, behind}
use Rattle.ak_filters.specs.declared.readings.ReadingPart.{ReadingPart}
use Rattle.ak_filters.specs.Readings.{in_base, in_inside, is_base, is_inside, begins_inside, begins_reading, unspaced, base_of, inside_of, reading_length, part_text, shown_reading, shown_from, line_length, IsSignAfter, IsCutAtSpace, ShowsUpTo, signed_text}
use Rattle.ak_filters.proofs.Signs.{has_at, front_at, behind_at, front_over, behind_lacks, end_lacks, begin_lacks, cut_whole, front_lacks}

-- ---- places at which no reading begins

all_stops : (xs ys : List ℕ) (d : ℕ) → in_base d ≡ false → list_all in_base (xs ++ (d ∷ ys)) ≡ false
all_stops [] ys d h = ap (λ v. v && list_all in_base ys) h
all_stops (x ∷ xs) ys d h = ap (λ v. in_base x && v) (all_stops xs ys d h) ∙ and-false (in_base x)

without_base : (text : List ℕ) → is_base (front (codes "[") text) ≡ false → begins_reading text ≡ false
without_base text h = ap (λ v. has (codes "[") text && (v && begins_inside (behind (codes "[") text))) h ∙ and-false (has (codes "[") text)

without_inside : (text : List ℕ) → begins_inside (behind (codes "[") text) ≡ false → begins_reading text ≡ false
without_inside text h =
    ap (λ v. has (codes "[") text && (is_base (front (codes "[") text) && v)) h
    ∙ ap (λ v. has (codes "[") text && v) (and-false (is_base (front (codes "[") text)))
    ∙ and-false (has (codes "[") text)

-- a byte that no base has stands before the next `[`
stopped : (xs ys : List ℕ) (d : ℕ) → (91 == d) ≡ false → in_base d ≡ false → has (codes "[") xs ≡ false → begins_reading (xs ++ (d ∷ ys)) ≡ false
stopped xs ys d n e h =
    without_base (xs ++ (d ∷ ys)) (ap is_base (front_over 91 d xs ys n h)
    ∙ ap (λ v. not (length (xs ++ (d ∷ front (codes "[") ys)) == 0) && v) (all_stops xs (front (codes "[") ys) d e)
    ∙ and-false (not (length (xs ++ (d ∷ front (codes "[") ys)) == 0)))

-- behind the next `[` stands no inside
unopened : (xs ys : List ℕ) → begins_inside ys ≡ false → has (codes "[") xs ≡ false → begins_reading (xs ++ (91 ∷ ys)) ≡ false
unopened xs ys n h = without_inside (xs ++ (91 ∷ ys)) (ap begins_inside (behind_at 91 xs ys h) ∙ n)

unended : (text : List ℕ) → has (codes "]") text ≡ false → begins_reading text ≡ false
unended text h = without_inside text (ap (λ v. v && is_inside (front (codes "]") (behind (codes "[") text))) (behind_lacks 93 91 text h))

-- ---- such places stay as they are

byte_kept : (part : ReadingPart) (b : ℕ) (bs : List ℕ) → begins_reading (unspaced (b ∷ bs)) ≡ false → shown_from part 0 (b ∷ bs) ≡ b ∷ shown_from part 0 bs
byte_kept part b bs h = ap (λ v. cond v (shown_reading part (b ∷ bs) ++ shown_from part (reading_length (b ∷ bs) - 1) bs) (b ∷ shown_from part 0 bs)) h

front_kept : (part : ReadingPart) (xs ys : List ℕ) → ((zs : List ℕ) → has (codes "[") zs ≡ false → begins_reading (zs ++ ys) ≡ false) → has (codes "[") xs ≡ false → shown_from part 0 (xs ++ ys) ≡ xs ++ shown_from part 0 ys
front_kept part [] ys n h = refl
front_kept part (b ∷ bs) ys n h =
    let both = or_parts (begins (codes "[") (b ∷ bs)) (has (codes "[") bs) h in
    let none : begins_reading (unspaced (b ∷ (bs ++ ys))) ≡ false = elim (begins (codes " ") (b ∷ (bs ++ ys))) as (λ v. begins_reading (cond v (bs ++ ys) (b ∷ (bs ++ ys))) ≡ false) [ true ↦ n bs both.1 | false ↦ n (b ∷ bs) h ] in
    byte_kept part b (bs ++ ys) none ∙ ap (λ zs. b ∷ zs) (front_kept part bs ys n both.1)

bracket_kept : (part : ReadingPart) (ys : List ℕ) → shown_from part 0 (91 ∷ ys) ≡ 91 ∷ shown_from part 0 ys
bracket_kept part ys = byte_kept part 91 ys refl

-- up to a sign that ends a base
up_to_sign : (part : ReadingPart) (xs ys : List ℕ) (d : ℕ) → (91 == d) ≡ false → in_base d ≡ false → has (codes "[") xs ≡ false → shown_from part 0 (xs ++ (d ∷ ys)) ≡ xs ++ shown_from part 0 (d ∷ ys)
up_to_sign part xs ys d n e h = front_kept part xs (d ∷ ys) (λ zs k. stopped zs ys d n e k) h

-- with that sign, if it is no space
past_sign : (part : ReadingPart) (xs ys : List ℕ) (d : ℕ) → (91 == d) ≡ false → (32 == d) ≡ false → in_base d ≡ false → has (codes "[") xs ≡ false → shown_from part 0 (xs ++ (d ∷ ys)) ≡ xs ++ (d ∷ shown_from part 0 ys)
past_sign part xs ys d n s e h =
    let here : unspaced (d ∷ ys) ≡ d ∷ ys = ap (λ v. cond (v && true) ys (d ∷ ys)) s in
    up_to_sign part xs ys d n e h ∙ ap (λ zs. xs ++ zs) (byte_kept part d ys (ap begins_reading here ∙ stopped [] ys d n e refl))

pub unended_kept : (part : ReadingPart) (xs : List ℕ) → has (codes "]") xs ≡ false → shown_from part 0 xs ≡ xs
unended_kept part [] h = refl
unended_kept part (b ∷ bs) h =
    let both = or_parts (begins (codes "]") (b ∷ bs)) (has (codes "]") bs) h in
    let none : begins_reading (unspaced (b ∷ bs)) ≡ false = elim (begins (codes " ") (b ∷ bs)) as (λ v. begins_reading (cond v bs (b ∷ bs)) ≡ false) [ true ↦ unended bs both.1 | false ↦ unended (b ∷ bs) h ] in
    byte_kept part b bs none ∙ ap (λ zs. b ∷ zs) (unended_kept part bs both.1)

-- ---- an inside

-- an inside that ends at a `]`, and nothing before it
inside_at : (xs others : List ℕ) → has (codes "]") xs ≡ false → begins_inside (xs ++ (93 ∷ others)) ≡ is_inside xs
inside_at xs others h = ap (λ v. v && is_inside (front (codes "]") (xs ++ (93 ∷ others)))) (has_at 93 xs others) ∙ ap is_inside (front_at 93 xs others h)

long_line : (n : ℕ) (xs : List ℕ) → has (10 ∷ []) xs ≡ false → line_length n xs ≡ n + length xs
long_line n [] h = omega arith
long_line n (b ∷ bs) h =
    let both = or_parts ((10 == b) && true) (has (10 ∷ []) bs) h in
    let no : (b == 10) ≡ false = grind (arith, both.0) in
    let e : n + 1 + length bs ≡ n + suc (length bs) = omega arith in
    ap (λ v. line_length (cond v 0 (n + 1)) bs) no ∙ long_line (n + 1) bs both.1 ∙ e

short_line : (n : ℕ) (xs : List ℕ) → has (10 ∷ []) xs ≡ true → line_length n xs < length xs
short_line n [] h = grind (arith, h)
short_line n (b ∷ bs) h = elim (has (10 ∷ []) bs) as (λ v. has (10 ∷ []) bs ≡ v → (((10 == b) && true) || v) ≡ true → line_length n (b ∷ bs) < length (b ∷ bs)) [
  | true ↦ λ e k. (let later = short_line (cond (b == 10) 0 (n + 1)) bs e in omega (arith, later))
  | false ↦ λ e k. (let here : (b == 10) ≡ true = grind (arith, k) in let later = ap (λ v. line_length (cond v 0 (n + 1)) bs) here ∙ long_line 0 bs e in omega (arith, later))
] refl h

pub line_goes_on : (n : ℕ) (xs ys : List ℕ) → line_length n (xs ++ ys) ≡ line_length (line_length n xs) ys
line_goes_on n [] ys = refl
line_goes_on n (x ∷ xs) ys = line_goes_on (cond (x == 10) 0 (n + 1)) xs ys

no_line_feed : (n line : ℕ) (xs : List ℕ) → line ≡ line_length n xs → length xs ≤ line → has (10 ∷ []) xs ≡ false
no_line_feed n line xs e l = elim (has (10 ∷ []) xs) as (λ v. has (10 ∷ []) xs ≡ v → v ≡ false) [ true ↦ λ h. (let short = short_line n xs h in absurd (omega (arith, short, e, l))) | false ↦ λ h. refl ] refl

a_line_feed : (n line : ℕ) (xs : List ℕ) → line ≡ line_length n xs → line < length xs → has (10 ∷ []) xs ≡ true
a_line_feed n line xs e l = elim (has (10 ∷ []) xs) as (λ v. has (10 ∷ []) xs ≡ v → v ≡ true) [ true ↦ λ h. refl | false ↦ λ h. (let long = long_line n xs h in absurd (omega (arith, long, e, l))) ] refl

all_inside : (xs : List ℕ) → has (codes "]") xs ≡ false → has (10 ∷ []) xs ≡ false → list_all in_inside xs ≡ true
all_inside [] h k = refl
all_inside (b ∷ bs) h k =
    let one = or_parts ((93 == b) && true) (has (codes "]") bs) h in
    let other = or_parts ((10 == b) && true) (has (10 ∷ []) bs) k in
    let here : in_inside b ≡ true = grind (arith, one.0, other.0) in
    ap (λ v. v && list_all in_inside bs) here ∙ all_inside bs one.1 other.1

some_outside : (xs : List ℕ) → has (10 ∷ []) xs ≡ true → list_all in_inside xs ≡ false
some_outside [] h = grind (arith, h)
some_outside (b ∷ bs) h = elim (b == 10) as (λ v. (b == 10) ≡ v → list_all in_inside (b ∷ bs) ≡ false) [
  | true ↦ λ e. (let here : in_inside b ≡ false = grind (arith, e) in ap (λ v. v && list_all in_inside bs) here)
  | false ↦ λ e. (let later : has (10 ∷ []) bs ≡ true = grind (arith, e, h) in ap (λ v. in_inside b && v) (some_outside bs later) ∙ and-false (in_inside b))
] refl

pub inside_yes : (n line : ℕ) (xs : List ℕ) → line ≡ line_length n xs → has (codes "]") xs ≡ false → 1 ≤ length xs → length xs ≤ line → is_inside xs ≡ true
inside_yes n line [] e h k l = absurd (omega (arith, k))
inside_yes n line (b ∷ bs) e h k l =
    let some : (length (b ∷ bs) == 0) ≡ false = grind arith in
    ap (λ v. not v && list_all in_inside (b ∷ bs)) some ∙ all_inside (b ∷ bs) h (no_line_feed n line (b ∷ bs) e l)

pub inside_no : (n line : ℕ) (xs : List ℕ) → line ≡ line_length n xs → (xs ≡ []) ⊎ (line < length xs) → is_inside xs ≡ false
inside_no n line xs e (inl h) = ap is_inside h
inside_no n line xs e (inr l) = ap (λ v. not (length xs == 0) && v) (some_outside xs (a_line_feed n line xs e l)) ∙ and-false (not (length xs == 0))

-- ---- a reading

all_base : (xs : List ℕ) → has (codes " ") xs ≡ false → has (codes ">") xs ≡ false → has (codes "[") xs ≡ false → has (codes "]") xs ≡ false → list_all in_base xs ≡ true
all_base [] s m o c = refl
all_base (b ∷ bs) s m o c =
    let space = or_parts ((32 == b) && true) (has (codes " ") bs) s in
    let mark = or_parts ((62 == b) && true) (has (codes ">") bs) m in
    let opening = or_parts ((91 == b) && true) (has (codes "[") bs) o in
    let closing = or_parts ((93 == b) && true) (has (codes "]") bs) c in
    let here : in_base b ≡ true = grind (arith, space.0, mark.0, opening.0, closing.0) in
    ap (λ v. v && list_all in_base bs) here ∙ all_base bs space.1 mark.1 opening.1 closing.1

past_bytes : (part : ReadingPart) (n : ℕ) (xs : List ℕ) → shown_from part n xs ≡ shown_from part 0 (drop n xs)
past_bytes part zero xs = refl
past_bytes part (suc n) [] = refl
past_bytes part (suc n) (b ∷ bs) = past_bytes part n bs

all_hold : (u v w : Bool) → u ≡ true → v ≡ true → w ≡ true → (u && (v && w)) ≡ true
all_hold u v w a b c = ap (λ x. x && (v && w)) a ∙ ap (λ x. x && w) b ∙ c

-- a base and an inside in brackets, and what is behind them
abbrev bracketed : List ℕ → List ℕ → List ℕ → List ℕ
bracketed base inside others = base ++ (91 ∷ (inside ++ (93 ∷ others)))

-- what makes a base and an inside of them
pub record IsReading (base inside : List ℕ) : Type 0 where
  pub is_base : is_base base ≡ true
  pub is_inside : is_inside inside ≡ true
  pub base_opens : has (codes "[") base ≡ false
  pub inside_ends : has (codes "]") inside ≡ false

begins_here : (base inside others : List ℕ) → IsReading base inside → begins_reading (bracketed base inside others) ≡ true
begins_here base inside others h =
    let rest = inside ++ (93 ∷ others) in
    all_hold (has (codes "[") (base ++ (91 ∷ rest))) (is_base (front (codes "[") (base ++ (91 ∷ rest)))) (begins_inside (behind (codes "[") (base ++ (91 ∷ rest))))
    (has_at 91 base rest) (ap is_base (front_at 91 base rest h.base_opens) ∙ h.is_base)
    (ap begins_inside (behind_at 91 base rest h.base_opens) ∙ inside_at inside others h.inside_ends ∙ h.is_inside)

base_is : (text base inside others : List ℕ) → IsReading base inside → unspaced text ≡ bracketed base inside others → base_of text ≡ base
base_is text base inside others h e = ap (front (codes "[")) e ∙ front_at 91 base (inside ++ (93 ∷ others)) h.base_opens

inside_is : (text base inside others : List ℕ) → IsReading base inside → unspaced text ≡ bracketed base inside others → inside_of text ≡ inside
inside_is text base inside others h e =
    ap (λ xs. front (codes "]") (behind (codes "[") xs)) e
    ∙ ap (front (codes "]")) (behind_at 91 base (inside ++ (93 ∷ others)) h.base_opens)
    ∙ front_at 93 inside others h.inside_ends

-- what is shown of a reading that takes these first bytes
taken : (part : ReadingPart) (t : ℕ) (ts base inside others : List ℕ) → IsReading base inside → unspaced (t ∷ (ts ++ others)) ≡ bracketed base inside others → reading_length (t ∷ (ts ++ others)) ≡ suc (length ts) →
    shown_from part 0 (t ∷ (ts ++ others)) ≡ cond (begins (codes "sound:") inside) (t ∷ ts) (part_text part base inside) ++ shown_from part 0 others
taken part t ts base inside others h e l =
    let text = t ∷ (ts ++ others) in
    let found : begins_reading (unspaced text) ≡ true = ap begins_reading e ∙ begins_here base inside others h in
    let less : reading_length text - 1 ≡ length ts = omega (arith, l) in
    let rest : drop (reading_length text - 1) (ts ++ others) ≡ others = ap (λ n. drop n (ts ++ others)) less ∙ drop-append_seam ts others in
    let own : take (reading_length text) text ≡ t ∷ ts = ap (λ n. take n text) l ∙ ap (λ xs. t ∷ xs) (take-append_seam ts others) in
    let shown : shown_reading part text ≡ cond (begins (codes "sound:") inside) (t ∷ ts) (part_text part base inside) =
    ap (λ xs. cond (begins (codes "sound:") xs) (take (reading_length text) text) (part_text part (base_of text) xs)) (inside_is text base inside others h e)
    ∙ ap (λ xs. cond (begins (codes "sound:") inside) xs (part_text part (base_of text) inside)) own
    ∙ ap (λ xs. cond (begins (codes "sound:") inside) (t ∷ ts) (part_text part xs inside)) (base_is text base inside others h e) in
    ap (λ v. cond v (shown_reading part text ++ shown_from part (reading_length text - 1) (ts ++ others)) (t ∷ shown_from part 0 (ts ++ others))) found
    ∙ ap (λ xs. xs ++ shown_from part (reading_length text - 1) (ts ++ others)) shown
    ∙ ap (λ xs. cond (begins (codes "sound:") inside) (t ∷ ts) (part_text part base inside) ++ xs) (past_bytes part (reading_length text - 1) (ts ++ others) ∙ ap (shown_from part 0) rest)

closed : (base inside others : List ℕ) → (base ++ (91 ∷ (inside ++ (93 ∷ [])))) ++ others ≡ bracketed base inside others
closed base inside others = append_assoc base (91 ∷ (inside ++ (93 ∷ []))) others ∙ ap (λ xs. base ++ (91 ∷ xs)) (append_assoc inside (93 ∷ []) others)

lengths : (base inside : List ℕ) → length (base ++ (91 ∷ (inside ++ (93 ∷ [])))) ≡ length base + 1 + length inside + 1
lengths base inside = omega (arith, length-append base (91 ∷ (inside ++ (93 ∷ []))), length-append inside (93 ∷ []))

spaced_shown : (part : ReadingPart) (base inside others : List ℕ) → IsReading base inside →
    shown_from part 0 (32 ∷ bracketed base inside others) ≡ cond (begins (codes "sound:") inside) (32 ∷ (base ++ (91 ∷ (inside ++ (93 ∷ []))))) (part_text part base inside) ++ shown_from part 0 others
spaced_shown part base inside others h =
    let ts = base ++ (91 ∷ (inside ++ (93 ∷ []))) in
    let e : unspaced (32 ∷ (ts ++ others)) ≡ bracketed base inside others = closed base inside others in
    let l : reading_length (32 ∷ (ts ++ others)) ≡ suc (length ts) =
    omega (arith, lengths base inside, ap length (base_is (32 ∷ (ts ++ others)) base inside others h e), ap length (inside_is (32 ∷ (ts ++ others)) base inside others h e)) in
    ap (λ xs. shown_from part 0 (32 ∷ xs)) (sym (closed base inside others)) ∙ taken part 32 ts base inside others h e l

bare_shown : (part : ReadingPart) (base inside others : List ℕ) → IsReading base inside → has (codes " ") base ≡ false →
    shown_from part 0 (bracketed base inside others) ≡ cond (begins (codes "sound:") inside) (base ++ (91 ∷ (inside ++ (93 ∷ [])))) (part_text part base inside) ++ shown_from part 0 others
bare_shown part [] inside others h s = let e = h.is_base in grind (arith, e)
bare_shown part (t ∷ bs) inside others h s =
    let ts = bs ++ (91 ∷ (inside ++ (93 ∷ []))) in
    let no_space = (or_parts ((32 == t) && true) (has (codes " ") bs) s).0 in
    let same : unspaced (t ∷ (ts ++ others)) ≡ t ∷ (ts ++ others) = ap (λ v. cond v (ts ++ others) (t ∷ (ts ++ others))) no_space in
    let e : unspaced (t ∷ (ts ++ others)) ≡ bracketed (t ∷ bs) inside others = same ∙ ap (λ xs. t ∷ xs) (closed bs inside others) in
    let none : ◌≡◌ {A = ℕ} (cond ((32 == t) && true) 1 0) 0 = ap (λ v. cond v 1 0) no_space in
    let l : reading_length (t ∷ (ts ++ others)) ≡ suc (length ts) =
    omega (arith, none, lengths (t ∷ bs) inside, ap length (base_is (t ∷ (ts ++ others)) (t ∷ bs) inside others h e), ap length (inside_is (t ∷ (ts ++ others)) (t ∷ bs) inside others h e)) in
    ap (λ xs. shown_from part 0 (t ∷ xs)) (sym (closed bs inside others)) ∙ taken part t ts (t ∷ bs) inside others h e l

-- ---- with what stands before the base

onto_choice : (v : Bool) (c : ℕ) (xs ys zs : List ℕ) → c ∷ (cond v xs ys ++ zs) ≡ cond v (c ∷ xs) (c ∷ ys) ++ zs
onto_choice true c xs ys zs = refl
onto_choice false c xs ys zs = refl

pub reading_shown : (part : ReadingPart) (kept sign base inside others : List ℕ) → IsSignAfter kept sign → has (codes "[") (kept ++ (sign ++ base)) ≡ false → IsReading base inside → has (codes " ") base ≡ false →
    shown_from part 0 ((kept ++ (sign ++ base)) ++ (91 ∷ (inside ++ (93 ∷ others)))) ≡ kept ++ (signed_text part sign base inside ++ shown_from part 0 others)
reading_shown part kept sign base inside others (inl n) o h s =
    ap (λ xs. shown_from part 0 ((xs ++ (sign ++ base)) ++ (91 ∷ (inside ++ (93 ∷ others))))) n.1
    ∙ ap (λ xs. shown_from part 0 ((xs ++ base) ++ (91 ∷ (inside ++ (93 ∷ others))))) n.0
    ∙ bare_shown part base inside others h s
    ∙ sym (ap (λ xs. signed_text part xs base inside ++ shown_from part 0 others) n.0)
    ∙ sym (ap (λ xs. xs ++ (signed_text part sign base inside ++ shown_from part 0 others)) n.1)
reading_shown part kept sign base inside others (inr (inl e)) o h s =
    ap (λ xs. shown_from part 0 ((kept ++ (xs ++ base)) ++ (91 ∷ (inside ++ (93 ∷ others))))) e
    ∙ ap (shown_from part 0) (append_assoc kept (32 ∷ base) (91 ∷ (inside ++ (93 ∷ others))))
    ∙ up_to_sign part kept (bracketed base inside others) 32 refl refl (begin_lacks 91 kept (sign ++ base) o)
    ∙ ap (λ xs. kept ++ xs) (spaced_shown part base inside others h)
    ∙ sym (ap (λ xs. kept ++ (signed_text part xs base inside ++ shown_from part 0 others)) e)
reading_shown part kept sign base inside others (inr (inr e)) o h s =
    ap (λ xs. shown_from part 0 ((kept ++ (xs ++ base)) ++ (91 ∷ (inside ++ (93 ∷ others))))) e
    ∙ ap (shown_from part 0) (append_assoc kept (62 ∷ base) (91 ∷ (inside ++ (93 ∷ others))))
    ∙ past_sign part kept (bracketed base inside others) 62 refl refl refl (begin_lacks 91 kept (sign ++ base) o)
    ∙ ap (λ xs. kept ++ (62 ∷ xs)) (bare_shown part base inside others h s)
    ∙ ap (λ xs. kept ++ xs) (onto_choice (begins (codes "sound:") inside) 62 (base ++ (91 ∷ (inside ++ (93 ∷ [])))) (part_text part base inside) (shown_from part 0 others))
    ∙ sym (ap (λ xs. kept ++ (signed_text part xs base inside ++ shown_from part 0 others)) e)

true_is_not_false : true ≡ false → ⊥
true_is_not_false e = grind (arith, e)

and_parts : (v w : Bool) → (v && w) ≡ true → (v ≡ true) × (w ≡ true)
and_parts true w h = (refl, h)
and_parts false w h = absurd (true_is_not_false (sym h))

lacks_stop : (c : ℕ) (test : ℕ → Bool) (xs : List ℕ) → test c ≡ false → list_all test xs ≡ true → has (c ∷ []) xs ≡ false
lacks_stop c test [] n h = refl
lacks_stop c test (b ∷ bs) n h = elim (c == b) as (λ v. (c == b) ≡ v → ((v && true) || has (c ∷ []) bs) ≡ false) [
  | true ↦ λ e. (let same : c ≡ b = grind (arith, e) in absurd (true_is_not_false (sym (and_parts (test b) (list_all test bs) h).0 ∙ ap test (sym same) ∙ n)))
  | false ↦ λ e. lacks_stop c test bs n (and_parts (test b) (list_all test bs) h).1
] refl

sign_lacks : (kept sign base : List ℕ) → IsSignAfter kept sign → has (codes "[") base ≡ false → has (codes "[") (sign ++ base) ≡ false
sign_lacks kept sign base (inl n) h = ap (λ xs. has (codes "[") (xs ++ base)) n.0 ∙ h
sign_lacks kept sign base (inr (inl e)) h = ap (λ xs. has (codes "[") (xs ++ base)) e ∙ h
sign_lacks kept sign base (inr (inr e)) h = ap (λ xs. has (codes "[") (xs ++ base)) e ∙ h

both_lack : (c : ℕ) (xs ys : List ℕ) → has (c ∷ []) xs ≡ false → has (c ∷ []) ys ≡ false → has (c ∷ []) (xs ++ ys) ≡ false
both_lack c [] ys h k = k
both_lack c (b ∷ bs) ys h k =
    let both = or_parts ((c == b) && true) (has (c ∷ []) bs) h in
    ap (λ v. v || has (c ∷ []) (bs ++ ys)) both.0 ∙ both_lack c bs ys both.1 k

pub first_reading : (part : ReadingPart) (kept sign base inside others : List ℕ) → IsSignAfter kept sign → has (codes "[") kept ≡ false → is_base base ≡ true → is_inside inside ≡ true →
    shown_from part 0 ((kept ++ (sign ++ base)) ++ (codes "[" ++ (inside ++ (codes "]" ++ others)))) ≡ kept ++ (signed_text part sign base inside ++ shown_from part 0 others)
first_reading part kept sign base inside others g k b i =
    let all = (and_parts (not (length base == 0)) (list_all in_base base) b).1 in
    let within = (and_parts (not (length inside == 0)) (list_all in_inside inside) i).1 in
    let opens = lacks_stop 91 in_base base refl all in
    let reading : IsReading base inside = record { is_base = b; is_inside = i; base_opens = opens; inside_ends = lacks_stop 93 in_inside inside refl within } in
    reading_shown part kept sign base inside others g (both_lack 91 kept (sign ++ base) k (sign_lacks kept sign base g opens)) reading (lacks_stop 32 in_base base refl all)

-- ---- a bracket that opens no inside

unopened_kept : (part : ReadingPart) (xs ys : List ℕ) → begins_inside ys ≡ false → has (codes "[") xs ≡ false → shown_from part 0 (xs ++ (91 ∷ ys)) ≡ xs ++ (91 ∷ shown_from part 0 ys)
unopened_kept part xs ys n h = front_kept part xs (91 ∷ ys) (λ zs k. unopened zs ys n k) h ∙ ap (λ zs. xs ++ zs) (bracket_kept part ys)

-- a sign without a base behind it
baseless_kept : (part : ReadingPart) (kept sign ys : List ℕ) → IsSignAfter kept sign → has (codes "[") (kept ++ (sign ++ [])) ≡ false → shown_from part 0 ((kept ++ (sign ++ [])) ++ (91 ∷ ys)) ≡ (kept ++ (sign ++ [])) ++ (91 ∷ shown_from part 0 ys)
baseless_kept part kept sign ys (inl n) o =
    let none : kept ++ (sign ++ []) ≡ [] = ap (λ xs. xs ++ (sign ++ [])) n.1 ∙ ap (λ xs. xs ++ []) n.0 in
    ap (λ xs. shown_from part 0 (xs ++ (91 ∷ ys))) none ∙ bracket_kept part ys ∙ sym (ap (λ xs. xs ++ (91 ∷ shown_from part 0 ys)) none)
baseless_kept part kept sign ys (inr (inl e)) o =
    let k = begin_lacks 91 kept (sign ++ []) o in
    let one : kept ++ (sign ++ []) ≡ kept ++ (32 ∷ []) = ap (λ xs. kept ++ (xs ++ [])) e in
    ap (λ xs. shown_from part 0 (xs ++ (91 ∷ ys))) one
    ∙ ap (shown_from part 0) (append_assoc kept (32 ∷ []) (91 ∷ ys))
    ∙ up_to_sign part kept (91 ∷ ys) 32 refl refl k
    ∙ ap (λ xs. kept ++ xs) (byte_kept part 32 (91 ∷ ys) refl ∙ ap (λ xs. 32 ∷ xs) (bracket_kept part ys))
    ∙ sym (append_assoc kept (32 ∷ []) (91 ∷ shown_from part 0 ys))
    ∙ sym (ap (λ xs. xs ++ (91 ∷ shown_from part 0 ys)) one)
baseless_kept part kept sign ys (inr (inr e)) o =
    let k = begin_lacks 91 kept (sign ++ []) o in
    let one : kept ++ (sign ++ []) ≡ kept ++ (62 ∷ []) = ap (λ xs. kept ++ (xs ++ [])) e in
    ap (λ xs. shown_from part 0 (xs ++ (91 ∷ ys))) one
    ∙ ap (shown_from part 0) (append_assoc kept (62 ∷ []) (91 ∷ ys))
    ∙ past_sign part kept (91 ∷ ys) 62 refl refl refl k
    ∙ ap (λ xs. kept ++ (62 ∷ xs)) (bracket_kept part ys)
    ∙ sym (append_assoc kept (62 ∷ []) (91 ∷ shown_from part 0 ys))
    ∙ sym (ap (λ xs. xs ++ (91 ∷ shown_from part 0 ys)) one)

-- ---- a text up to its next `]`, bracket by bracket

-- no reading opens at the bracket: it goes on behind it
goes_on : (part : ReadingPart) (rest before inside old new segment : List ℕ) → rest ≡ before ++ (91 ∷ inside) → has (codes "[") before ≡ false → has (codes "]") inside ≡ false → is_inside inside ≡ false →
    ((others : List ℕ) → old ++ shown_from part 0 (segment ++ (93 ∷ others)) ≡ new ++ shown_from part 0 (rest ++ (93 ∷ others))) →
    (others : List ℕ) → old ++ shown_from part 0 (segment ++ (93 ∷ others)) ≡ (new ++ (before ++ codes "[")) ++ shown_from part 0 (inside ++ (93 ∷ others))
goes_on part rest before inside old new segment r b c i so others =
    so others
    ∙ ap (λ xs. new ++ shown_from part 0 (xs ++ (93 ∷ others))) r
    ∙ ap (λ xs. new ++ shown_from part 0 xs) (append_assoc before (91 ∷ inside) (93 ∷ others))
    ∙ ap (λ xs. new ++ xs) (unopened_kept part before (inside ++ (93 ∷ others)) (inside_at inside others c ∙ i) b)
    ∙ ap (λ xs. new ++ xs) (sym (append_assoc before (codes "[") (shown_from part 0 (inside ++ (93 ∷ others)))))
    ∙ sym (append_assoc new (before ++ codes "[") (shown_from part 0 (inside ++ (93 ∷ others))))

-- nor does one where no base is
goes_on_baseless : (part : ReadingPart) (rest before kept sign base inside old new segment : List ℕ) → rest ≡ before ++ (91 ∷ inside) → has (codes "[") before ≡ false → before ≡ kept ++ (sign ++ base) → IsSignAfter kept sign → base ≡ [] →
    ((others : List ℕ) → old ++ shown_from part 0 (segment ++ (93 ∷ others)) ≡ new ++ shown_from part 0 (rest ++ (93 ∷ others))) →
    (others : List ℕ) → old ++ shown_from part 0 (segment ++ (93 ∷ others)) ≡ (new ++ (before ++ codes "[")) ++ shown_from part 0 (inside ++ (93 ∷ others))
goes_on_baseless part rest before kept sign base inside old new segment r b w g n so others =
    let bare : before ≡ kept ++ (sign ++ []) = w ∙ ap (λ xs. kept ++ (sign ++ xs)) n in
    so others
    ∙ ap (λ xs. new ++ shown_from part 0 (xs ++ (93 ∷ others))) r
    ∙ ap (λ xs. new ++ shown_from part 0 xs) (append_assoc before (91 ∷ inside) (93 ∷ others))
    ∙ ap (λ xs. new ++ shown_from part 0 (xs ++ (91 ∷ (inside ++ (93 ∷ others))))) bare
    ∙ ap (λ xs. new ++ xs) (baseless_kept part kept sign (inside ++ (93 ∷ others)) g (ap (has (codes "[")) (sym bare) ∙ b))
    ∙ ap (λ xs. new ++ (xs ++ (91 ∷ shown_from part 0 (inside ++ (93 ∷ others))))) (sym bare)
    ∙ ap (λ xs. new ++ xs) (sym (append_assoc before (codes "[") (shown_from part 0 (inside ++ (93 ∷ others)))))
    ∙ sym (append_assoc new (before ++ codes "[") (shown_from part 0 (inside ++ (93 ∷ others))))

-- what is told of a bracket: what stands on both sides of it, and that no `]` follows
pub record IsAtBracket (rest before inside : List ℕ) : Type 0 where
  pub whole : rest ≡ before ++ (91 ∷ inside)
  pub before_opens : has (codes "[") before ≡ false
  pub inside_ends : has (codes "]") inside ≡ false

pub at_bracket : (rest before inside : List ℕ) → has (codes "[") rest ≡ true → before ≡ front (codes "[") rest → inside ≡ behind (codes "[") rest → has (codes "]") rest ≡ false → IsAtBracket rest before inside
at_bracket rest before inside h b i l = record {
  whole = cut_whole 91 rest h ∙ sym (ap (λ xs. xs ++ (91 ∷ behind (codes "[") rest)) b) ∙ sym (ap (λ xs. before ++ (91 ∷ xs)) i);
  before_opens = ap (has (codes "[")) b ∙ front_lacks 91 rest;
  inside_ends = ap (has (codes "]")) i ∙ behind_lacks 93 91 rest l;
}

-- the last line of what is behind a bracket
pub line_behind : (n line : ℕ) (rest before inside : List ℕ) → IsAtBracket rest before inside → line ≡ line_length n rest → line ≡ line_length (line_length n before + 1) inside
line_behind n line rest before inside at e = e ∙ ap (line_length n) at.whole ∙ line_goes_on n before (91 ∷ inside)

pub goes_past : (part : ReadingPart) (n line : ℕ) (rest before kept sign base inside old new mid made segment : List ℕ) → IsAtBracket rest before inside → line ≡ line_length n rest → before ≡ kept ++ (sign ++ base) → IsSignAfter kept sign →
    (base ≡ []) ⊎ (inside ≡ []) ⊎ (line < length inside) → mid ≡ new ++ before → made ≡ mid ++ codes "[" →
    ((others : List ℕ) → old ++ shown_from part 0 (segment ++ (93 ∷ others)) ≡ new ++ shown_from part 0 (rest ++ (93 ∷ others))) →
    (others : List ℕ) → old ++ shown_from part 0 (segment ++ (93 ∷ others)) ≡ made ++ shown_from part 0 (inside ++ (93 ∷ others))
goes_past part n line rest before kept sign base inside old new mid made segment at e w g (inl none) m d so others =
    goes_on_baseless part rest before kept sign base inside old new segment at.whole at.before_opens w g none so others
    ∙ sym (ap (λ xs. xs ++ shown_from part 0 (inside ++ (93 ∷ others))) (d ∙ ap (λ xs. xs ++ codes "[") m ∙ append_assoc new before (codes "[")))
goes_past part n line rest before kept sign base inside old new mid made segment at e w g (inr lacks) m d so others =
    goes_on part rest before inside old new segment at.whole at.before_opens at.inside_ends (inside_no (line_length n before + 1) line inside (line_behind n line rest before inside at e) lacks) so others
    ∙ sym (ap (λ xs. xs ++ shown_from part 0 (inside ++ (93 ∷ others))) (d ∙ ap (λ xs. xs ++ codes "[") m ∙ append_assoc new before (codes "[")))

-- a reading opens at the bracket, and ends the text
ends_reading : (part : ReadingPart) (n line : ℕ) (rest before kept sign base inside old new mid made segment : List ℕ) → IsAtBracket rest before inside → has (codes "]") rest ≡ false → line ≡ line_length n rest → before ≡ kept ++ (sign ++ base) → IsSignAfter kept sign → has (codes " ") base ≡ false → has (codes ">") base ≡ false →
    (1 ≤ length base) × (1 ≤ length inside) × (length inside ≤ line) → mid ≡ new ++ kept → made ≡ mid ++ signed_text part sign base inside →
    ((others : List ℕ) → old ++ shown_from part 0 (segment ++ (93 ∷ others)) ≡ new ++ shown_from part 0 (rest ++ (93 ∷ others))) →
    ShowsUpTo part segment old made
ends_reading part n line rest before kept sign base inside old new mid made segment at c e w g s m fits k d so others =
    let whole : has (codes "]") (before ++ (91 ∷ inside)) ≡ false = ap (has (codes "]")) (sym at.whole) ∙ c in
    let lacks : has (codes "]") (kept ++ (sign ++ base)) ≡ false = ap (has (codes "]")) (sym w) ∙ begin_lacks 93 before (91 ∷ inside) whole in
    let opens : has (codes "[") (kept ++ (sign ++ base)) ≡ false = ap (has (codes "[")) (sym w) ∙ at.before_opens in
    let base_opens = end_lacks 91 sign base (end_lacks 91 kept (sign ++ base) opens) in
    let some : (length base == 0) ≡ false = grind (arith, fits.0) in
    let is : is_base base ≡ true = ap (λ v. not v && list_all in_base base) some ∙ all_base base s m base_opens (end_lacks 93 sign base (end_lacks 93 kept (sign ++ base) lacks)) in
    let in_brackets : is_inside inside ≡ true = inside_yes (line_length n before + 1) line inside (line_behind n line rest before inside at e) at.inside_ends fits.1 fits.2 in
    let reading : IsReading base inside = record { is_base = is; is_inside = in_brackets; base_opens = base_opens; inside_ends = at.inside_ends } in
    so others
    ∙ ap (λ xs. new ++ shown_from part 0 (xs ++ (93 ∷ others))) at.whole
    ∙ ap (λ xs. new ++ shown_from part 0 xs) (append_assoc before (91 ∷ inside) (93 ∷ others))
    ∙ ap (λ xs. new ++ shown_from part 0 (xs ++ (91 ∷ (inside ++ (93 ∷ others))))) w
    ∙ ap (λ xs. new ++ xs) (reading_shown part kept sign base inside others g opens reading s)
    ∙ sym (append_assoc new kept (signed_text part sign base inside ++ shown_from part 0 others))
    ∙ sym (append_assoc (new ++ kept) (signed_text part sign base inside) (shown_from part 0 others))
    ∙ sym (ap (λ xs. xs ++ shown_from part 0 others) (d ∙ ap (λ xs. xs ++ signed_text part sign base inside) k))

pub ends_there : {T E : Type 0} (r : Result T E) (part : ReadingPart) (n line : ℕ) (rest before kept sign base inside old new mid made segment : List ℕ) → IsAtBracket rest before inside → has (codes "]") rest ≡ false → line ≡ line_length n rest → before ≡ kept ++ (sign ++ base) → IsSignAfter kept sign → has (codes " ") base ≡ false → has (codes ">") base ≡ false →
    (1 ≤ length base) × (1 ≤ length inside) × (length inside ≤ line) → mid ≡ new ++ kept → OnOk r (made ≡ mid ++ signed_text part sign base inside) →
    ((others : List ℕ) → old ++ shown_from part 0 (segment ++ (93 ∷ others)) ≡ new ++ shown_from part 0 (rest ++ (93 ∷ others))) →
    OnOk r (ShowsUpTo part segment old made)
ends_there (Ok x) part n line rest before kept sign base inside old new mid made segment at c e w g s m fits k d so = ends_reading part n line rest before kept sign base inside old new mid made segment at c e w g s m fits k d so
ends_there (Err x) part n line rest before kept sign base inside old new mid made segment at c e w g s m fits k d so = tt

-- no bracket opens any more
pub ends_plainly : (part : ReadingPart) (rest old new mid made segment : List ℕ) → has (codes "[") rest ≡ false → mid ≡ new ++ rest → made ≡ mid ++ codes "]" →
    ((others : List ℕ) → old ++ shown_from part 0 (segment ++ (93 ∷ others)) ≡ new ++ shown_from part 0 (rest ++ (93 ∷ others))) →
    ShowsUpTo part segment old made
ends_plainly part rest old new mid made segment h m d so others =
    so others
    ∙ ap (λ xs. new ++ xs) (past_sign part rest others 93 refl refl refl h)
    ∙ ap (λ xs. new ++ xs) (sym (append_assoc rest (codes "]") (shown_from part 0 others)))
    ∙ sym (append_assoc new (rest ++ codes "]") (shown_from part 0 others))
    ∙ sym (ap (λ xs. xs ++ shown_from part 0 others) (d ∙ ap (λ xs. xs ++ codes "]") m ∙ append_assoc new rest (codes "]")))

-- ---- the last sign before a base

-- behind the last space stands no mark, if none stands behind a space that is behind the last mark
pub behind_both : (one before other after : List ℕ) → one ++ (62 ∷ other) ≡ before ++ (32 ∷ after) → has (codes ">") other ≡ false → has (codes " ") other ≡ true → has (codes " ") after ≡ false → has (codes ">") after ≡ false
behind_both [] [] other after e m s l = grind (arith, e)
behind_both [] (b ∷ bs) other after e m s l = end_lacks 62 (32 ∷ []) after (end_lacks 62 bs (32 ∷ after) (ap (has (codes ">")) (sym (ap (drop 1) e)) ∙ m))
behind_both (a ∷ more) [] other after e m s l =
    let none : has (codes " ") other ≡ false = end_lacks 32 (62 ∷ []) other (end_lacks 32 more (62 ∷ other) (ap (has (codes " ")) (ap (drop 1) e) ∙ l)) in
    absurd (true_is_not_false (sym s ∙ none))
behind_both (a ∷ more) (b ∷ bs) other after e m s l = behind_both more bs other after (ap (drop 1) e) m s l

pub no_mark_left : (text kept base before sign after : List ℕ) → text ≡ kept ++ (codes ">" ++ base) → has (codes ">") base ≡ false → has (codes " ") base ≡ true → IsCutAtSpace text before sign after → has (codes ">") after ≡ false
no_mark_left text kept base before sign after w m s (inl c) =
    let none : has (codes " ") base ≡ false = end_lacks 32 (62 ∷ []) base (end_lacks 32 kept (62 ∷ base) (ap (has (codes " ")) (sym w) ∙ c.3)) in
    absurd (true_is_not_false (sym s ∙ none))
no_mark_left text kept base before sign after w m s (inr c) = behind_both kept before base after (sym w ∙ c.1) m s c.2

pub no_mark_at_all : (text before sign after : List ℕ) → has (codes ">") text ≡ false → IsCutAtSpace text before sign after → has (codes ">") after ≡ false
no_mark_at_all text before sign after h (inl c) = ap (has (codes ">")) c.2 ∙ h
no_mark_at_all text before sign after h (inr c) = end_lacks 62 (32 ∷ []) after (end_lacks 62 before (32 ∷ after) (ap (has (codes ">")) (sym c.1) ∙ h))

-- ---- from `]` to `]`

pub segment_lacks : (rest segment : List ℕ) → segment ≡ front (codes "]") rest → has (codes "]") segment ≡ false
segment_lacks rest segment e = ap (has (codes "]")) e ∙ front_lacks 93 rest

pub whole_segment : (rest segment others : List ℕ) → has (codes "]") rest ≡ true → segment ≡ front (codes "]") rest → others ≡ behind (codes "]") rest → rest ≡ segment ++ (93 ∷ others)
whole_segment rest segment others h s o = cut_whole 93 rest h ∙ sym (ap (λ xs. xs ++ (93 ∷ behind (codes "]") rest)) s) ∙ sym (ap (λ xs. segment ++ (93 ∷ xs)) o)

pub shows_on : (part : ReadingPart) (text rest segment others old new : List ℕ) → rest ≡ segment ++ (93 ∷ others) → ShowsUpTo part segment old new → old ++ shown_from part 0 rest ≡ shown_from part 0 text → new ++ shown_from part 0 others ≡ shown_from part 0 text
shows_on part text rest segment others old new r s w = sym (s others) ∙ sym (ap (λ xs. old ++ shown_from part 0 xs) r) ∙ w
