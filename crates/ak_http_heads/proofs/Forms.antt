-- The forms of values are ASCII, so a value that is no text has none of them; and what they stand for.
use Rattle.std.proofs.Common.{◌≡◌, ℕ, ◌^◌, ◌<◌, List, [], ◌∷◌, length, get_or, Bool, true, false, not, ◌&&◌, cond, Option, Some, None, Result, Ok, Err, refl, sym, ap, ◌∙◌, subst, arith}
use Rattle.std.proofs.lemmas.Bool.Decides.{nat_tests}
use Rattle.std.proofs.lemmas.Grind.{common_steps}
use Rattle.std.proofs.lemmas.Int.Digits.{digits_value-lt}
use Rattle.std.proofs.lemmas.Result.{Ok-from_Ok_iff}
use Rattle.std.proofs.lemmas.Str.{IsUtf8-from_ascii}
use Rattle.std.proofs.lemmas.Str.Ascii.{IsAscii-nil, IsAscii-cons}
use Rattle.std.proofs.lemmas.Str.Parse.{without_leading_plus_none}
use Rattle.std.specs.Char.{is_ascii_digit, digit_value}
use Rattle.std.specs.Cmp.{first_so, second_so}
use Rattle.std.specs.Prelude.{IsUtf8, IsAscii, ◌==◌, nat_lt, is_some}
use Rattle.std.specs.Result.{OkIff}
use Rattle.std.specs.Str.{all_ascii_digits}
use Rattle.std.specs.Str.Parse.{AllDigits, digits_value, ParsesUnsigned}
use Rattle.ak_base.specs.Decimals.{is_decimal, at_most, number_of}
use Rattle.ak_base.specs.Keys.{is_lower_hex, are_lower_hex, is_host_key, host_digits}
use Rattle.ak_http_heads.specs.Fields.{session_number}

digit_small : (c : ℕ) → is_ascii_digit c ≡ true → c < 128
digit_small c h = grind (arith, nat_tests, h)

hex_small : (c : ℕ) → is_lower_hex c ≡ true → c < 128
hex_small c h = grind (arith, nat_tests, h)

hex_value : (c : ℕ) → is_lower_hex c ≡ true → digit_value c < 16
hex_value c h = grind (arith, nat_tests, h)

hex_no_sign : (c : ℕ) → is_lower_hex c ≡ true → c ≡ 43 → ⊥
hex_no_sign c h = grind (arith, nat_tests, h)

-- ---- decimal numbers

digits_ascii : (text : List ℕ) → all_ascii_digits text ≡ true → IsAscii text
digits_ascii [] h = IsAscii-nil
digits_ascii (digit ∷ digits) h =
    IsAscii-cons digit digits (digit_small digit (first_so (is_ascii_digit digit) _ h)) (digits_ascii digits (second_so (is_ascii_digit digit) _ h))

decimal_ascii : (text : List ℕ) → is_decimal text ≡ true → IsAscii text
decimal_ascii [] h = IsAscii-nil
decimal_ascii (digit ∷ []) h = IsAscii-cons digit [] (digit_small digit h) IsAscii-nil
decimal_ascii (first ∷ second ∷ others) h = digits_ascii (first ∷ second ∷ others) (second_so (not (first == 48)) _ h)

-- a value that is no text is no number
pub number_of_text : (most : ℕ) (value : List ℕ) → ¬ (IsUtf8 value) → None ≡ number_of most value
unfolding number_of
number_of_text most value no_text =
    elim (is_decimal value) as (λ b. is_decimal value ≡ b → None ≡ cond b (at_most most (digits_value 10 value)) None) [
      | true ↦ λ is. absurd (no_text (IsUtf8-from_ascii value (decimal_ascii value is)))
      | false ↦ λ is. refl
    ] refl

-- a decimal number that is over the limit, and one that is not
is_over : (most : ℕ) (value : List ℕ) → is_decimal value ≡ true → None ≡ number_of most value → nat_lt most (digits_value 10 value) ≡ true
unfolding number_of
is_over most value decimal none = above most (digits_value 10 value) (rw decimal at none)
  where
    above : (most number : ℕ) → None ≡ at_most most number → nat_lt most number ≡ true
    above most number h = grind (arith, nat_tests, common_steps, h)

is_not_over : (most number : ℕ) (value : List ℕ) → is_decimal value ≡ true → Some number ≡ number_of most value → nat_lt most (digits_value 10 value) ≡ false
unfolding number_of
is_not_over most number value decimal some = within most number (digits_value 10 value) (rw decimal at some)
  where
    within : (most found number : ℕ) → Some found ≡ at_most most number → nat_lt most number ≡ false
    within most found number h = grind (arith, nat_tests, common_steps, h)

pub over_limit : (most : ℕ) (value : List ℕ) (found : Option ℕ) (over : Bool) → is_decimal value ≡ true → found ≡ number_of most value
    → is_some found ≡ not over → over ≡ (is_decimal value && nat_lt most (digits_value 10 value))
over_limit most value None over decimal is told = rw (decimal, is_over most value decimal is) (grind (arith, told))
over_limit most value (Some number) over decimal is told = rw (decimal, is_not_over most number value decimal is) (grind (arith, told))

-- ---- keys

hex_ascii : (text : List ℕ) → are_lower_hex text ≡ true → IsAscii text
hex_ascii [] h = IsAscii-nil
hex_ascii (digit ∷ digits) h =
    IsAscii-cons digit digits (hex_small digit (first_so (is_lower_hex digit) _ h)) (hex_ascii digits (second_so (is_lower_hex digit) _ h))

-- a value that is no text is no key of a device
pub host_of_text : (value : List ℕ) → ¬ (IsUtf8 value) → None ≡ host_digits value
host_of_text value no_text =
    elim (is_host_key value) as (λ b. is_host_key value ≡ b → None ≡ cond b (Some value) None) [
      | true ↦ λ is. absurd (no_text (IsUtf8-from_ascii value (hex_ascii value (second_so (length value == 32) _ is))))
      | false ↦ λ is. refl
    ] refl

hex_digits : (text : List ℕ) → are_lower_hex text ≡ true → AllDigits 16 text
hex_digits [] h = tt
hex_digits (digit ∷ digits) h =
    (hex_value digit (first_so (is_lower_hex digit) _ h), hex_digits digits (second_so (is_lower_hex digit) _ h))

hex_first : (text : List ℕ) → are_lower_hex text ≡ true → get_or text 0 0 ≡ 43 → ⊥
hex_first [] h e = omega (arith, e)
hex_first (digit ∷ digits) h e = hex_no_sign digit (first_so (is_lower_hex digit) _ h) e

-- a value of another length, or of other bytes, is no session
pub session_of_length : (value : List ℕ) → (length value ≡ 16 → ⊥) → None ≡ session_number value
unfolding session_number
session_of_length value other = rw (unequal (length value) 16 other) refl
  where
    unequal : (a b : ℕ) → (a ≡ b → ⊥) → (a == b) ≡ false
    unequal a b h = grind (arith, nat_tests, h)

pub session_of_bytes : (value : List ℕ) → are_lower_hex value ≡ false → None ≡ session_number value
unfolding session_number
session_of_bytes value other = rw other (none (length value == 16) (digits_value 16 value))
  where
    none : (b : Bool) (n : ℕ) → None ≡ cond (b && false) (Some n) None
    none true n = refl
    none false n = refl

-- 16 digits are text, and what `from_str_radix` gives is the session
pub session_text : (value : List ℕ) → are_lower_hex value ≡ true → IsUtf8 value
session_text value lower = IsUtf8-from_ascii value (hex_ascii value lower)

session_parsed : {E : Type 0} (value : List ℕ) (r : Result ℕ E) → length value ≡ 16 → are_lower_hex value ≡ true → ParsesUnsigned 64 16 value r
    → (r ≡ Ok (digits_value 16 value)) × (session_number value ≡ Some (digits_value 16 value))
unfolding session_number
session_parsed {E} value r size lower parsed =
    let plain = without_leading_plus_none value (hex_first value lower) in
    let digits = hex_digits value lower in
    let fits : digits_value 16 value < 2 ^ 64 = omega (arith, subst (λ n. digits_value 16 value < 16 ^ n) size (digits_value-lt 16 value digits)) in
    let some : 0 < length value = omega arith in
    let own : OkIff r (((0 < length value) × AllDigits 16 value) × (digits_value 16 value < 2 ^ 64)) (digits_value 16 value)
    = subst (λ l. OkIff r (((0 < length l) × AllDigits 16 l) × (digits_value 16 l < 2 ^ 64)) (digits_value 16 l)) plain parsed in
    (Ok-from_Ok_iff r _ _ own ((some, digits), fits), rw (size, lower) refl)

pub session_read : (E : Type 0) (value : List ℕ) (number : ℕ) → length value ≡ 16 → are_lower_hex value ≡ true → ParsesUnsigned {E = E} 64 16 value (Ok number)
    → Some number ≡ session_number value
session_read E value number size lower parsed =
    let read = session_parsed {E = E} value (Ok number) size lower parsed in
    let same : number ≡ digits_value 16 value = cc (read.0) in
    ap (λ n. Some n) same ∙ sym read.1

pub session_not_refused : {E : Type 0} (value : List ℕ) (error : E) → length value ≡ 16 → are_lower_hex value ≡ true → ParsesUnsigned {E = E} 64 16 value (Err error) → ⊥
session_not_refused {E} value error size lower parsed =
    let read = session_parsed {E = E} value (Err error) size lower parsed in cc (read.0)
