-- What `parse` gives at a text of decimal digits.
use Rattle.std.proofs.Common.{◌≡◌, ℕ, zero, suc, ◌^◌, ◌<◌, ◌≤◌, ◌==◌, nat_le, Bool, true, false, not, ◌&&◌, if◌then◌else◌, List, [], ◌∷◌, length, get_or, Some, None, Ok, Err, refl, sym, ap, ◌∙◌, arith, rules}
use Rattle.std.specs.Cmp.{second_so}
use Rattle.std.proofs.lemmas.Grind.{common_steps}
use Rattle.std.proofs.lemmas.Str.Parse.{IsNumeralModel, numerals_by_value, parse_digits}
use Rattle.std.proofs.lemmas.Bool.{and_parts, not-true}
use Rattle.std.proofs.lemmas.Bool.Decides.{Decides-eqb}
use Rattle.std.proofs.lemmas.Option.{same_Some}
use Rattle.std.proofs.lemmas.Fmt.{decimal_digit, digits_decimal, decimal_nonempty, first_decimal, digits_value-decimal, decimal-digits_value}
use Rattle.std.specs.Char.{is_ascii_digit}
use Rattle.std.specs.Fmt.{decimal}
use Rattle.std.specs.Result.{OkIff}
use Rattle.std.specs.Str.{all_ascii_digits}
use Rattle.std.specs.Str.Parse.{digits_value, ParsesUnsigned}
use Rattle.ak_base.specs.Decimals.{is_decimal, at_most, number_of}

own : IsNumeralModel (λ ds. all_ascii_digits ds ≡ true) (digits_value 10)
own = numerals_by_value _ (search rules)

first_true : (a : Bool) → a ≡ true → (a && true) ≡ true
first_true a h = rw h refl

are_digits : (text : List ℕ) → is_decimal text ≡ true → (all_ascii_digits text ≡ true) × (0 < length text)
are_digits [] h = cc
are_digits (digit ∷ []) h = (first_true _ h, omega arith)
are_digits (first ∷ second ∷ others) h = (second_so (not (first == 48)) _ h, omega arith)

-- a text that is no decimal number
pub unless_decimal : (most : ℕ) (text : List ℕ) → is_decimal text ≡ false → None ≡ number_of most text
unfolding number_of
unless_decimal most text h = rw h refl

-- what `parse` gave is the text's number
pub parsed : (E : Type 0) (most : ℕ) (text : List ℕ) (number : ℕ) → ParsesUnsigned {E = E} 64 10 text (Ok number) → is_decimal text ≡ true → at_most most number ≡ number_of most text
unfolding number_of
parsed E most text number given decimal =
    let value : OkIff {E = E} (Ok number) ((0 < length text) × (digits_value 10 text < 2 ^ 64)) (digits_value 10 text) = parse_digits own {E = E} 64 text (Ok number) given (are_digits text decimal).0 in
    rw (decimal, value.1) refl

over : (most number : ℕ) → most < number → None ≡ at_most most number
over most number h = grind (arith, common_steps)

-- what `parse` refused is over each `u64`
pub not_parsed : {E : Type 0} (most : ℕ) (text : List ℕ) (error : E) → most < 2 ^ 64 → ParsesUnsigned {E = E} 64 10 text (Err error) → is_decimal text ≡ true → None ≡ number_of most text
unfolding number_of
not_parsed {E} most text error small given decimal =
    let digits : (all_ascii_digits text ≡ true) × (0 < length text) = are_digits text decimal in
    let large : OkIff {T = ℕ} (Err error) ((0 < length text) × (digits_value 10 text < 2 ^ 64)) (digits_value 10 text) = parse_digits own {E = E} 64 text (Err error) given digits.0 in
    rw decimal (over most _ (above most _ small (λ fits. large (digits.1, fits))))
  where
    above : (most value : ℕ) → most < 2 ^ 64 → (value < 2 ^ 64 → ⊥) → most < value
    above most value small not_small = omega arith

-- ---- from a number to its digits, and back
-- digits of which the first is 0 only if it is alone
decimal_from : (text : List ℕ) → all_ascii_digits text ≡ true → 0 < length text → (get_or text 0 0 ≡ 48 → length text ≡ 1) → is_decimal text ≡ true
decimal_from [] digits some lone = absurd (omega (arith, some))
decimal_from (digit ∷ []) digits some lone = second_first (is_ascii_digit digit) digits
  where
    second_first : (a : Bool) → (a && true) ≡ true → a ≡ true
    second_first a h = grind (arith, h)
decimal_from (first ∷ second ∷ others) digits some lone =
    elim (first == 48) as (λ b. (first == 48) ≡ b → (not b && all_ascii_digits (first ∷ second ∷ others)) ≡ true) [
      | true ↦ λ is. absurd (let one : length (first ∷ second ∷ others) ≡ 1 = lone ((Decides-eqb first 48).0 is) in omega (arith, one))
      | false ↦ λ is. digits
    ] refl

in_range : (most n : ℕ) → n ≤ most → at_most most n ≡ Some n
in_range most n h = grind (arith, common_steps, h)

written : (n : ℕ) → n < 2 ^ 64 → is_decimal (decimal n) ≡ true
written n small =
    decimal_from (decimal n) (digits_decimal own n small) (decimal_nonempty n small) (lone n small)
  where
    lone : (n : ℕ) → n < 2 ^ 64 → get_or (decimal n) 0 0 ≡ 48 → length (decimal n) ≡ 1
    lone zero small e = ap length (decimal_digit 0 (omega arith))
    lone (suc n) small e = absurd (omega (arith, first_decimal (suc n) (omega arith) small, e))

pub decimal_read : (most n : ℕ) → n ≤ most → most < 2 ^ 64 → number_of most (decimal n) ≡ Some n
unfolding number_of
decimal_read most n h small =
    let fits : n < 2 ^ 64 = omega (arith, h, small) in
    rw (written n fits, digits_value-decimal own n fits) (in_range most n h)

-- ---- from a text to its number, and back
at_most_was : (most value n : ℕ) → at_most most value ≡ Some n → (value ≡ n) × (n ≤ most)
at_most_was most value n h =
    elim (nat_le value most) as (λ b. nat_le value most ≡ b → (if b then Some value else None) ≡ Some n → (value ≡ n) × (n ≤ most)) [
      | true ↦ λ e g. let same = same_Some value n g in (same, grind (arith, e, same))
      | false ↦ λ e g. grind (arith, g)
    ] refl h

lone_zero : (text : List ℕ) → is_decimal text ≡ true → get_or text 0 0 ≡ 48 → length text ≡ 1
lone_zero [] h e = grind (arith, h)
lone_zero (digit ∷ []) h e = refl
lone_zero (first ∷ second ∷ others) h e =
    let p : (first == 48) ≡ false = not-true (first == 48) (and_parts (not (first == 48)) _ h).0 in
    grind (arith, p, e)

-- a text that is read as a number is the text of that number
pub decimal_written : (most n : ℕ) (text : List ℕ) → most < 2 ^ 64 → number_of most text ≡ Some n → (decimal n ≡ text) × (n ≤ most)
unfolding number_of
decimal_written most n text small h =
    elim (is_decimal text) as (λ b. is_decimal text ≡ b → (if b then at_most most (digits_value 10 text) else None) ≡ Some n → (decimal n ≡ text) × (n ≤ most)) [
      | true ↦ λ e g. let was = at_most_was most (digits_value 10 text) n g in let d = are_digits text e in
          (ap decimal (sym was.0) ∙ decimal-digits_value own text d.0 d.1 (lone_zero text e) (omega (arith, was.0, was.1, small)), was.1)
      | false ↦ λ e g. grind (arith, g)
    ] refl h
