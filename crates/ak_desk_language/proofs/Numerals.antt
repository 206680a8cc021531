-- Numbers in their ranges and their texts.
use Rattle.std.proofs.Common.{◌≡◌, ℕ, ◌^◌, ◌<◌, ◌≤◌, ◌==◌, nat_lt, ℤ, pos, negsuc, Bool, true, false, if◌then◌else◌, List, [], ◌∷◌, Option, Some, None, refl, sym, ap, subst, ◌∙◌, arith, rules}
use Rattle.std.specs.Prelude.{◌≤ℤ◌}
use Rattle.std.proofs.lemmas.Bool.{and_parts}
use Rattle.std.proofs.lemmas.Fmt.{digits_decimal}
use Rattle.std.proofs.lemmas.Grind.{common_steps}
use Rattle.std.proofs.lemmas.Int.{ints}
use Rattle.std.proofs.lemmas.Option.{same_Some, option_and_then_some}
use Rattle.std.proofs.lemmas.Str.Parse.{IsNumeralModel, numerals_by_value}
use Rattle.std.specs.Char.{is_ascii_digit}
use Rattle.std.specs.Fmt.{decimal, signed_decimal}
use Rattle.std.specs.Str.{all_ascii_digits}
use Rattle.std.specs.Str.Parse.{digits_value}
use Rattle.ak_base.specs.Decimals.{number_of}
use Rattle.ak_base.specs.Heads.{IsWithin}
use Rattle.ak_base.proofs.Numerals.{decimal_read, decimal_written}
use Rattle.ak_desk_language.specs.Reading.{number_in}
use Rattle.ak_desk_language.proofs.Spaces.{is_spaceless}

own : IsNumeralModel (λ ds. all_ascii_digits ds ≡ true) (digits_value 10)
own = numerals_by_value _ (search rules)

-- ---- digits are no spaces
no_space : (byte : ℕ) → is_ascii_digit byte ≡ true → (32 == byte) ≡ false
no_space byte h = grind (arith, h)

digits_spaceless : (text : List ℕ) → all_ascii_digits text ≡ true → is_spaceless text ≡ true
digits_spaceless [] h = refl
digits_spaceless (byte ∷ text) h =
    let p = and_parts (is_ascii_digit byte) (all_ascii_digits text) h in
    rw (no_space byte p.0) (digits_spaceless text p.1)

-- ---- a number that is written is read
in_least : (least n : ℕ) → least ≤ n → (if nat_lt n least then None else Some (pos n)) ≡ Some (pos n)
in_least least n h = grind (arith, common_steps, h)

low_of : (least n : ℕ) → pos least ≤ℤ pos n → least ≤ n
low_of least n h = omega (arith, ints, h)

not_below : (least n : ℕ) → pos least ≤ℤ negsuc n → ⊥
not_below least n h = omega (arith, ints, h)

pub number_read : (least most : ℕ) (z : ℤ) → most < 2 ^ 64 → IsWithin (pos least) (pos most) z → number_in (least, most) (signed_decimal z) ≡ Some z
number_read least most (pos n) small h = rw (decimal_read most n (low_of n most h.high) small) (in_least least n (low_of least n h.low))
number_read least most (negsuc n) small h = absurd (not_below least n h.low)

pub number_spaceless : (least most : ℕ) (z : ℤ) → most < 2 ^ 64 → IsWithin (pos least) (pos most) z → is_spaceless (signed_decimal z) ≡ true
number_spaceless least most (pos n) small h =
    let high = low_of n most h.high in
    digits_spaceless (decimal n) (digits_decimal own n (omega (arith, high, small)))
number_spaceless least most (negsuc n) small h = absurd (not_below least n h.low)

-- ---- a number that is read is written so
least_was : (least n : ℕ) (z : ℤ) → (if nat_lt n least then None else Some (pos n)) ≡ Some z → (pos n ≡ z) × (least ≤ n)
least_was least n z h =
    elim (nat_lt n least) as (λ b. nat_lt n least ≡ b → (if b then None else Some (pos n)) ≡ Some z → (pos n ≡ z) × (least ≤ n)) [
      | true ↦ λ e g. grind (arith, g)
      | false ↦ λ e g. (same_Some (pos n) z g, grind (arith, e))
    ] refl h

within : (least most n : ℕ) → least ≤ n → n ≤ most → IsWithin (pos least) (pos most) (pos n)
within least most n low high = record { low = omega (arith, ints, low); high = omega (arith, ints, high) }

pub number_written : (least most : ℕ) (text : List ℕ) (z : ℤ) → most < 2 ^ 64 → number_in (least, most) text ≡ Some z → (signed_decimal z ≡ text) × IsWithin (pos least) (pos most) z
number_written least most text z small h =
    option_and_then_some _ (number_of most text) z h (λ n was is.
    let d = decimal_written most n text small was in
    let l = least_was least n z is in
    (ap signed_decimal (sym l.0) ∙ d.0, subst (IsWithin (pos least) (pos most)) l.0 (within least most n l.1 d.1)))
