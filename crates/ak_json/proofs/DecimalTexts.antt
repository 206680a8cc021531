-- A factor that is written is read again, and no text of its value is shorter.
use Rattle.std.proofs.Common.{◌≡◌, ℕ, zero, suc, ◌+◌, ◌-◌, ◌*◌, ◌/◌, ◌%◌, ◌<◌, ◌≤◌, ◌==◌, ℤ, pos, negsuc, Bool, true, false, ◌&&◌, ◌||◌, if◌then◌else◌, List, [], ◌∷◌, ◌++◌, length, codes, Option, Some, None, refl, sym, ap, subst, ◌∙◌, arith, rules}
use Rattle.std.specs.Prelude.{◌≤ℤ◌}
use Rattle.std.proofs.lemmas.Bool.{and_parts}
use Rattle.std.proofs.lemmas.Fmt.{decimal_digit, digits_decimal}
use Rattle.std.proofs.lemmas.Int.{ints}
use Rattle.std.proofs.lemmas.List.{append-nil, length-append}
use Rattle.std.proofs.lemmas.Option.{same_Some}
use Rattle.std.proofs.lemmas.Str.Parse.{IsNumeralModel, numerals_by_value}
use Rattle.std.specs.Char.{is_ascii_digit}
use Rattle.std.specs.Fmt.{decimal}
use Rattle.std.specs.Str.{all_ascii_digits}
use Rattle.std.specs.Str.Parse.{digits_value}
use Rattle.ak_base.specs.Cuts.{has, front, behind}
use Rattle.ak_base.specs.Decimals.{number_of}
use Rattle.ak_base.proofs.Numerals.{decimal_read, decimal_written}
use Rattle.ak_json.specs.Decimals.{decimal_of, decimal_text, joined, places_text, thousandths}

own : IsNumeralModel (λ ds. all_ascii_digits ds ≡ true) (digits_value 10)
own = numerals_by_value _ (search rules)

-- ---- digits before a point

no_point : (byte : ℕ) → is_ascii_digit byte ≡ true → (46 == byte) ≡ false
no_point byte h = grind (arith, h)

-- the text is cut into these parts
record IsCut (ds rest : List ℕ) : Type 0 where
  has : has (codes ".") (ds ++ 46 ∷ rest) ≡ true
  front : front (codes ".") (ds ++ 46 ∷ rest) ≡ ds
  behind : behind (codes ".") (ds ++ 46 ∷ rest) ≡ rest

cut_at : (ds rest : List ℕ) → all_ascii_digits ds ≡ true → IsCut ds rest
cut_at [] rest h = record { has = refl; front = refl; behind = refl }
cut_at (d ∷ ds) rest h =
    let p = and_parts (is_ascii_digit d) (all_ascii_digits ds) h in
    let later : IsCut ds rest = cut_at ds rest p.1 in
    let no : (46 == d) ≡ false = no_point d p.0 in
    record {
      has = rw no later.has;
      front = rw no (ap (λ (xs : List ℕ). d ∷ xs) later.front);
      behind = rw no later.behind;
    }

uncut : (ds : List ℕ) → all_ascii_digits ds ≡ true → has (codes ".") ds ≡ false
uncut [] h = refl
uncut (d ∷ ds) h =
    let p = and_parts (is_ascii_digit d) (all_ascii_digits ds) h in
    let no : (46 == d) ≡ false = no_point d p.0 in
    rw no (uncut ds p.1)

digits : (w : ℕ) → w ≤ 999_999 → all_ascii_digits (decimal w) ≡ true
digits w small = digits_decimal own w (omega (arith, small))

whole_read : (w : ℕ) → w ≤ 999_999 → number_of 999_999 (decimal w) ≡ Some w
whole_read w small = decimal_read 999_999 w small (omega arith)

with_point : (w p : ℕ) (rest : List ℕ) → w ≤ 999_999 → thousandths rest ≡ Some p → decimal_of (decimal w ++ 46 ∷ rest) ≡ Some (pos (1_000 * w + p))
unfolding decimal_of
with_point w p rest small h =
    let cut : IsCut (decimal w) rest = cut_at (decimal w) rest (digits w small) in
    rw (cut.has, cut.front, cut.behind, whole_read w small, h) refl

without_point : (w : ℕ) → w ≤ 999_999 → decimal_of (decimal w) ≡ Some (pos (1_000 * w + 0))
unfolding decimal_of
without_point w small = rw (uncut (decimal w) (digits w small), whole_read w small) refl

-- ---- digits after it

is_digit : (a : ℕ) → a < 10 → is_ascii_digit (48 + a) ≡ true
is_digit a h = grind (arith, h)

minus_zero : (a : ℕ) → (48 + a) - 48 ≡ a
minus_zero a = omega arith

one_place : (a : ℕ) → a < 10 → thousandths (decimal a) ≡ Some (100 * a)
one_place a h = rw (decimal_digit a h, is_digit a h, minus_zero a) refl

two_places : (a b : ℕ) → a < 10 → b < 10 → thousandths (decimal a ++ decimal b) ≡ Some (100 * a + 10 * b)
two_places a b h k = rw (decimal_digit a h, decimal_digit b k, is_digit a h, is_digit b k, minus_zero a, minus_zero b) refl

three_places : (a b c : ℕ) → a < 10 → b < 10 → c < 10 → thousandths (decimal a ++ decimal b ++ decimal c) ≡ Some (100 * a + 10 * b + c)
three_places a b c h k l =
    rw (decimal_digit a h, decimal_digit b k, decimal_digit c l, is_digit a h, is_digit b k, is_digit c l, minus_zero a, minus_zero b, minus_zero c) refl

above_zero : (a : ℕ) → (suc a == 0) ≡ false
above_zero a = grind arith

one_text : (a : ℕ) → places_text (suc a) 0 0 ≡ 46 ∷ decimal (suc a)
one_text a = rw (above_zero a) refl

two_text : (a b : ℕ) → places_text a (suc b) 0 ≡ 46 ∷ (decimal a ++ decimal (suc b))
two_text a b = rw (above_zero b) refl

three_text : (a b c : ℕ) → places_text a b (suc c) ≡ 46 ∷ (decimal a ++ decimal b ++ decimal (suc c))
three_text a b c = rw (above_zero c) refl

read_places : (w a b c : ℕ) → w ≤ 999_999 → a < 10 → b < 10 → c < 10 → decimal_of (decimal w ++ places_text a b c) ≡ Some (pos (1_000 * w + (100 * a + 10 * b + c)))
read_places w zero zero zero small ha hb hc = ap decimal_of (append-nil (decimal w)) ∙ without_point w small
read_places w (suc a) zero zero small ha hb hc =
    let same : 100 * suc a ≡ 100 * suc a + 10 * 0 + 0 = omega arith in
    ap (λ (t : List ℕ). decimal_of (decimal w ++ t)) (one_text a) ∙ with_point w (100 * suc a) (decimal (suc a)) small (one_place (suc a) ha) ∙ ap (λ (p : ℕ). Some (pos (1_000 * w + p))) same
read_places w a (suc b) zero small ha hb hc =
    let same : 100 * a + 10 * suc b ≡ 100 * a + 10 * suc b + 0 = omega arith in
    ap (λ (t : List ℕ). decimal_of (decimal w ++ t)) (two_text a b) ∙ with_point w (100 * a + 10 * suc b) (decimal a ++ decimal (suc b)) small (two_places a (suc b) ha hb) ∙ ap (λ (p : ℕ). Some (pos (1_000 * w + p))) same
read_places w a b (suc c) small ha hb hc =
    ap (λ (t : List ℕ). decimal_of (decimal w ++ t)) (three_text a b c)
    ∙ with_point w (100 * a + 10 * b + suc c) (decimal a ++ decimal b ++ decimal (suc c)) small (three_places a b (suc c) ha hb hc)

put_together : (n : ℕ) → 1_000 * (n / 1_000) + (100 * (n / 100 % 10) + 10 * (n / 10 % 10) + n % 10) ≡ n
put_together n = omega arith

-- a factor that is written is read again
pub decimal_again : (n : ℕ) → n ≤ 999_999_999 → decimal_of (decimal_text (pos n)) ≡ Some (pos n)
unfolding decimal_text
decimal_again n small =
    read_places (n / 1_000) (n / 100 % 10) (n / 10 % 10) (n % 10) (omega (arith, small)) (omega arith) (omega arith) (omega arith)
    ∙ ap (λ (m : ℕ). Some (pos m)) (put_together n)

pub factor_again : (z : ℤ) → pos 0 ≤ℤ z → z ≤ℤ pos 999_999_999 → decimal_of (decimal_text z) ≡ Some z
factor_again (pos n) low high = decimal_again n (omega (arith, ints, high))
factor_again (negsuc n) low high = absurd (omega (arith, ints, low))

-- ---- the shortest text

-- the parts of a text with a point
parts_long : (text : List ℕ) → has (codes ".") text ≡ true → length (front (codes ".") text) + 1 + length (behind (codes ".") text) ≡ length text
parts_long [] h = cc
parts_long (byte ∷ bytes) h = one (46 == byte) h (parts_long bytes)
  where
    one : (here : Bool) → ((here && true) || has (codes ".") bytes) ≡ true
        → (has (codes ".") bytes ≡ true → length (front (codes ".") bytes) + 1 + length (behind (codes ".") bytes) ≡ length bytes)
        → length (if here && true then [] else byte ∷ front (codes ".") bytes) + 1 + length (if here && true then bytes else behind (codes ".") bytes) ≡ length (byte ∷ bytes)
    one true k later = omega arith
    one false k later = let n = later k in omega (arith, n)

if_some : (b : Bool) (v q : ℕ) → (if b then Some v else None) ≡ Some q → (b ≡ true) × (v ≡ q)
if_some true v q h = (refl, same_Some v q h)
if_some false v q h = cc

digit_low : (x : ℕ) → is_ascii_digit x ≡ true → x - 48 < 10
digit_low x h = grind (arith, h)

-- digits after a point, of which there is a text that is no longer
record IsPlaces (ds : List ℕ) (q : ℕ) : Type 0 where
  a : ℕ
  b : ℕ
  c : ℕ
  a_low : a < 10
  b_low : b < 10
  c_low : c < 10
  value : q ≡ 100 * a + 10 * b + c
  short : length (places_text a b c) ≤ 1 + length ds

few_one : (a : ℕ) → a < 10 → length (places_text a 0 0) ≤ 2
few_one zero h = omega arith
few_one (suc a) h = rw (above_zero a, decimal_digit (suc a) h) (omega arith)

few_two : (a b : ℕ) → a < 10 → b < 10 → length (places_text a b 0) ≤ 3
few_two a zero h k = let n = few_one a h in omega (arith, n)
few_two a (suc b) h k = rw (above_zero b, decimal_digit a h, decimal_digit (suc b) k) (omega arith)

few_three : (a b c : ℕ) → a < 10 → b < 10 → c < 10 → length (places_text a b c) ≤ 4
few_three a b zero h k l = let n = few_two a b h k in omega (arith, n)
few_three a b (suc c) h k l = rw (above_zero c, decimal_digit a h, decimal_digit b k, decimal_digit (suc c) l) (omega arith)

are_places : (ds : List ℕ) (q : ℕ) → thousandths ds ≡ Some q → IsPlaces ds q
are_places [] q h = cc
are_places (x ∷ []) q h =
    let is = if_some (is_ascii_digit x) (100 * (x - 48)) q h in
    let low = digit_low x is.0 in
    record {
      a = x - 48;
      b = 0;
      c = 0;
      a_low = low;
      b_low = omega arith;
      c_low = omega arith;
      value = let e = is.1 in omega (arith, e);
      short = few_one (x - 48) low;
    }
are_places (x ∷ y ∷ []) q h =
    let is = if_some (is_ascii_digit x && is_ascii_digit y) (100 * (x - 48) + 10 * (y - 48)) q h in
    let both = and_parts (is_ascii_digit x) (is_ascii_digit y) is.0 in
    let low = digit_low x both.0 in
    let next = digit_low y both.1 in
    record {
      a = x - 48;
      b = y - 48;
      c = 0;
      a_low = low;
      b_low = next;
      c_low = omega arith;
      value = let e = is.1 in omega (arith, e);
      short = few_two (x - 48) (y - 48) low next;
    }
are_places (x ∷ y ∷ z ∷ []) q h =
    let is = if_some (is_ascii_digit x && is_ascii_digit y && is_ascii_digit z) (100 * (x - 48) + 10 * (y - 48) + (z - 48)) q h in
    let all = and_parts (is_ascii_digit x && is_ascii_digit y) (is_ascii_digit z) is.0 in
    let both = and_parts (is_ascii_digit x) (is_ascii_digit y) all.0 in
    let low = digit_low x both.0 in
    let next = digit_low y both.1 in
    let last = digit_low z all.1 in
    record {
      a = x - 48;
      b = y - 48;
      c = z - 48;
      a_low = low;
      b_low = next;
      c_low = last;
      value = sym is.1;
      short = few_three (x - 48) (y - 48) (z - 48) low next last;
    }
are_places (x ∷ y ∷ z ∷ more ∷ ds) q h = cc

-- the digits of a number are its digits
whole_is : (w a b c : ℕ) → a < 10 → b < 10 → c < 10 → (1_000 * w + (100 * a + 10 * b + c)) / 1_000 ≡ w
whole_is w a b c h k l = omega (arith, h, k, l)

first_is : (w a b c : ℕ) → a < 10 → b < 10 → c < 10 → (1_000 * w + (100 * a + 10 * b + c)) / 100 % 10 ≡ a
first_is w a b c h k l = omega (arith, h, k, l)

second_is : (w a b c : ℕ) → a < 10 → b < 10 → c < 10 → (1_000 * w + (100 * a + 10 * b + c)) / 10 % 10 ≡ b
second_is w a b c h k l = omega (arith, h, k, l)

third_is : (w a b c : ℕ) → a < 10 → b < 10 → c < 10 → (1_000 * w + (100 * a + 10 * b + c)) % 10 ≡ c
third_is w a b c h k l = omega (arith, h, k, l)

text_is : (w a b c : ℕ) → a < 10 → b < 10 → c < 10 → decimal_text (pos (1_000 * w + (100 * a + 10 * b + c))) ≡ decimal w ++ places_text a b c
unfolding decimal_text
text_is w a b c h k l = rw (whole_is w a b c h k l, first_is w a b c h k l, second_is w a b c h k l, third_is w a b c h k l) refl

-- whole ones and thousandths that are joined were there
record IsJoined (whole part : Option ℕ) (z : ℤ) : Type 0 where
  w : ℕ
  q : ℕ
  whole_is : whole ≡ Some w
  part_is : part ≡ Some q
  value : z ≡ pos (1_000 * w + q)

were_joined : (whole part : Option ℕ) (z : ℤ) → joined whole part ≡ Some z → IsJoined whole part z
were_joined None part z h = cc
were_joined (Some w) None z h = cc
were_joined (Some w) (Some q) z h = record { w = w; q = q; whole_is = refl; part_is = refl; value = sym (same_Some (pos (1_000 * w + q)) z h) }

long_text : (w : ℕ) (front places ds text : List ℕ) → decimal w ≡ front → length places ≤ 1 + length ds → length front + 1 + length ds ≡ length text
    → length (decimal w ++ places) ≤ length text
long_text w front places ds text is short long =
    let n : length (decimal w ++ places) ≡ length (decimal w) + length places = length-append (decimal w) places in
    let m : length (decimal w) ≡ length front = ap length is in
    omega (arith, n, m, short, long)

shortest_cut : (text : List ℕ) (z : ℤ) → has (codes ".") text ≡ true → joined (number_of 999_999 (front (codes ".") text)) (thousandths (behind (codes ".") text)) ≡ Some z
    → length (decimal_text z) ≤ length text
shortest_cut text z h e =
    let was = were_joined (number_of 999_999 (front (codes ".") text)) (thousandths (behind (codes ".") text)) z e in
    let p = are_places (behind (codes ".") text) was.q was.part_is in
    let is : z ≡ pos (1_000 * was.w + (100 * p.a + 10 * p.b + p.c)) = was.value ∙ ap (λ (q : ℕ). pos (1_000 * was.w + q)) p.value in
    let same : decimal_text z ≡ decimal was.w ++ places_text p.a p.b p.c = ap decimal_text is ∙ text_is was.w p.a p.b p.c p.a_low p.b_low p.c_low in
    let whole = decimal_written 999_999 was.w (front (codes ".") text) (omega arith) was.whole_is in
    subst (λ (t : List ℕ). length t ≤ length text) (sym same)
    (long_text was.w (front (codes ".") text) (places_text p.a p.b p.c) (behind (codes ".") text) text whole.0 p.short (parts_long text h))

shortest_whole : (text : List ℕ) (z : ℤ) → joined (number_of 999_999 text) (Some 0) ≡ Some z → length (decimal_text z) ≤ length text
shortest_whole text z e =
    let was = were_joined (number_of 999_999 text) (Some 0) z e in
    let zero_is : was.q ≡ 0 = sym (same_Some 0 was.q was.part_is) in
    let is : z ≡ pos (1_000 * was.w + (100 * 0 + 10 * 0 + 0)) = was.value ∙ ap (λ (q : ℕ). pos (1_000 * was.w + q)) zero_is in
    let same : decimal_text z ≡ decimal was.w ++ [] = ap decimal_text is ∙ text_is was.w 0 0 0 (omega arith) (omega arith) (omega arith) in
    let whole = decimal_written 999_999 was.w text (omega arith) was.whole_is in
    let long : length (decimal_text z) ≡ length text = ap length (same ∙ append-nil (decimal was.w) ∙ whole.0) in
    omega (arith, long)

-- no text of a factor is shorter than the one that is written
pub decimal_shortest : (text : List ℕ) (z : ℤ) → decimal_of text ≡ Some z → length (decimal_text z) ≤ length text
unfolding decimal_of
decimal_shortest text z h =
    elim (has (codes ".") text) as (λ b. has (codes ".") text ≡ b
    → (if b then joined (number_of 999_999 (front (codes ".") text)) (thousandths (behind (codes ".") text)) else joined (number_of 999_999 text) (Some 0)) ≡ Some z
    → length (decimal_text z) ≤ length text) [
      | true ↦ λ e g. shortest_cut text z e g
      | false ↦ λ e g. shortest_whole text z g
    ] refl h
