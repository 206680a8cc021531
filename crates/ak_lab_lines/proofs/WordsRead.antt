-- The words and numbers of a line that is written are read.
use Rattle.std.proofs.Common.{◌≡◌, ◌≢◌, ℕ, suc, ◌^◌, ◌<◌, ◌≤◌, ◌==◌, ℤ, pos, negsuc, ◌≤ℤ◌, true, false, List, [], ◌∷◌, ◌++◌, Some, option_map, refl, sym, ap, ◌∙◌, arith, rules}
use Rattle.std.specs.Prelude.{codes}
use Rattle.std.proofs.lemmas.Bool.{and_parts}
use Rattle.std.proofs.lemmas.Fmt.{decimal_digit, digits_decimal}
use Rattle.std.proofs.lemmas.Int.{ints}
use Rattle.std.proofs.lemmas.Str.Parse.{IsNumeralModel, numerals_by_value}
use Rattle.std.specs.Char.{is_ascii_digit}
use Rattle.std.specs.Cmp.Lexicographic.{bytes_decides}
use Rattle.std.specs.Fmt.{decimal, signed_decimal}
use Rattle.std.specs.Str.{all_ascii_digits}
use Rattle.std.specs.Str.Parse.{digits_value}
use Rattle.ak_base.specs.Cuts.{begins, has}
use Rattle.ak_base.specs.Decimals.{number_of}
use Rattle.ak_base.specs.Heads.{IsWithin}
use Rattle.ak_base.proofs.Numerals.{decimal_read}
use Rattle.ak_desk_language.specs.Reading.{next_number}
use Rattle.ak_search.specs.Terms.{is_word}
use Rattle.ak_desk_language.proofs.Numerals.{number_read, number_spaceless}
use Rattle.ak_desk_language.proofs.Spaces.{is_spaceless, cut_at}
use Rattle.ak_lab_lines.specs.LabLines.{filled, word_of, another_word, next_word, side_of, negated, signed_number}
use Rattle.ak_lab_lines.specs.Written.{IsWord, IsSide, side_word}
use Rattle.ak_lab_lines.specs.declared.lab_lines.Side.{Side}
use Rattle.ak_lab_lines.specs.declared.lab_lines.Side.TheVariants as sides

-- ---- words
pub spaceless : (text : List ℕ) → has (codes " ") text ≡ false → is_spaceless text ≡ true
spaceless [] h = refl
spaceless (byte ∷ bytes) h =
    elim (32 == byte) as (λ b. (32 == byte) ≡ b → is_spaceless (byte ∷ bytes) ≡ true) [
      | true ↦ λ e. absurd (grind (arith, rw e at h))
      | false ↦ λ e. rw e (spaceless bytes (rw e at h))
    ] refl

not_empty : (text : List ℕ) → text ≢ [] → filled text ≡ Some text
not_empty [] h = absurd (h refl)
not_empty (byte ∷ bytes) h = refl

pub word_read : (word : List ℕ) → IsWord word → word_of word ≡ Some word
word_read word w = rw w.spaceless (not_empty word w.filled)

pub next_word_read : (word rest : List ℕ) → IsWord word → next_word (word ++ (32 ∷ rest)) ≡ Some (word, rest)
next_word_read word rest w =
    let cut = cut_at word rest (spaceless word w.spaceless) in
    rw cut.found (rw cut.before (rw cut.after (ap (option_map (λ w. (w, rest))) (not_empty word w.filled))))

pub other_word : (name word : List ℕ) → name ≢ word → is_word name word ≡ false
other_word name word differs =
    elim (is_word name word) as (λ b. is_word name word ≡ b → b ≡ false) [
      | true ↦ λ e. absurd (differs ((bytes_decides name word).0 e))
      | false ↦ λ e. refl
    ] refl

-- another word than the first one
pub another_read : (first word : List ℕ) → IsWord word → word ≢ first → another_word first word ≡ Some word
another_read first word w differs = rw (other_word word first differs) (word_read word w)

-- a side has one word, and is named by it
pub side_filled : (side : Side) → IsSide side → IsWord (side_word side)
side_filled sides.Server h = record { filled = λ e. grind (arith, e); spaceless = refl }
side_filled (sides.Device name) h = h.0

pub side_read : (side : Side) → IsSide side → side_of (side_word side) ≡ side
side_read sides.Server h = refl
side_read (sides.Device name) h = rw (other_word name (codes "server") h.1) refl

-- ---- numbers
pub next_number_read : (least most : ℕ) (z : ℤ) (rest : List ℕ) → most < 2 ^ 64 → IsWithin (pos least) (pos most) z
    → next_number (least, most) (signed_decimal z ++ (32 ∷ rest)) ≡ Some (z, rest)
next_number_read least most z rest small within =
    let cut = cut_at (signed_decimal z) rest (number_spaceless least most z small within) in
    rw cut.found (rw cut.before (rw cut.after (ap (option_map (λ n. (n, rest))) (number_read least most z small within))))

own : IsNumeralModel (λ ds. all_ascii_digits ds ≡ true) (digits_value 10)
own = numerals_by_value _ (search rules)

no_minus : (byte : ℕ) → is_ascii_digit byte ≡ true → (45 == byte) ≡ false
no_minus byte h = grind (arith, h)

digits_begin : (text : List ℕ) → all_ascii_digits text ≡ true → begins (codes "-") text ≡ false
digits_begin [] h = refl
digits_begin (byte ∷ bytes) h = rw (no_minus byte (and_parts (is_ascii_digit byte) (all_ascii_digits bytes) h).0) refl

pub below_zero : (k : ℕ) → negated (suc k) ≡ negsuc k
below_zero k = omega (arith, ints)

low : (n : ℕ) → pos n ≤ℤ pos 9_223_372_036_854_775_807 → n ≤ 9_223_372_036_854_775_807
low n h = omega (arith, ints, h)

from_zero : (n : ℕ) → pos n ≤ℤ pos 9_223_372_036_854_775_807 → IsWithin (pos 0) (pos 9_223_372_036_854_775_807) (pos n)
from_zero n h = record { low = omega (arith, ints); high = h }

small : (k : ℕ) → negsuc 9_223_372_036_854_775_807 ≤ℤ negsuc k → suc k ≤ 9_223_372_036_854_775_808
small k h = omega (arith, ints, h)

pub signed_read : (z : ℤ) → IsWithin (negsuc 9_223_372_036_854_775_807) (pos 9_223_372_036_854_775_807) z → signed_number (signed_decimal z) ≡ Some z
signed_read (pos n) h =
    rw (digits_begin (decimal n) (digits_decimal own n (omega (arith, low n h.high)))) (number_read 0 9_223_372_036_854_775_807 (pos n) (omega arith) (from_zero n h.high))
signed_read (negsuc k) h =
    ap (option_map negated) (decimal_read 9_223_372_036_854_775_808 (suc k) (small k h.low) (omega arith)) ∙ ap Some (below_zero k)

pub minus_zero_read : signed_number (codes "-0") ≡ Some (pos 0)
minus_zero_read =
    ap (λ digits. option_map negated (number_of 9_223_372_036_854_775_808 digits)) (sym (decimal_digit 0 (omega arith)))
    ∙ ap (option_map negated) (decimal_read 9_223_372_036_854_775_808 0 (omega arith) (omega arith))
