-- What the text of a request is as it is printed.
use Rattle.std.proofs.Common.{◌≡◌, ◌∙◌, ℕ, ℤ, ◌-◌, List, [], ◌++◌, Option, Some, false, length, refl, ap, subst, arith, append_assoc, append-nil}
use Rattle.std.specs.Prelude.{replicate, IfSome}
use Rattle.std.specs.Option.{option_map}
use Rattle.std.specs.Fmt.{char_count, digits, format_spec, padded_integral, signed_decimal}
use Rattle.ak_http_wires.specs.RequestTexts.{session_text}

-- a number under the options `016`
sixteen_digits : (number : ℕ) → padded_integral (format_spec 32 0 4 16 18_446_744_073_709_551_615) false [] (digits 16 false number) ≡ session_text number
unfolding padded_integral char_count
sixteen_digits number =
    let numeral = digits 16 false number in
    let size : 16 - length numeral - 0 - 0 ≡ 16 - length numeral = omega arith in
    ap (λ k. replicate k 48 ++ (numeral ++ [])) size ∙ ap (λ l. replicate (16 - length numeral) 48 ++ l) (append-nil numeral)

-- what is printed of a number whose digits are laid out so
pub session_shown : (layout : List ℕ → List ℕ) (output : Option (List ℕ)) (number : ℕ) (text : List ℕ) → output ≡ Some (digits 16 false number)
    → layout (digits 16 false number) ≡ padded_integral (format_spec 32 0 4 16 18_446_744_073_709_551_615) false [] (digits 16 false number)
    → IfSome (option_map layout output) (λ shown. text ≡ shown) → text ≡ session_text number
session_shown layout output number text is laid_out shown =
    subst (λ o. IfSome (option_map layout o) (λ l. text ≡ l)) is shown ∙ laid_out ∙ sixteen_digits number

-- ---- pieces that follow each other, from the right and from the left

pub first_shown : (text a method made b host c : List ℕ) → text ≡ a ++ (method ++ (b ++ (host ++ c))) → method ≡ made → text ≡ a ++ made ++ b ++ host ++ c
first_shown text a method made b host c is is_method = is ∙ ap (λ m. a ++ (m ++ (b ++ (host ++ c)))) is_method ∙ simp append_assoc refl

pub envelope_shown : (text a key made b session told c step d : List ℕ) (shown base : ℤ) (e : List ℕ)
    → text ≡ a ++ (key ++ (b ++ (session ++ (c ++ (step ++ (d ++ (signed_decimal shown ++ e)))))))
    → key ≡ made → session ≡ told → shown ≡ base → text ≡ a ++ made ++ b ++ told ++ c ++ step ++ d ++ signed_decimal base ++ e
envelope_shown text a key made b session told c step d shown base e is is_key is_session is_base =
    is ∙ ap (λ k. a ++ (k ++ (b ++ (session ++ (c ++ (step ++ (d ++ (signed_decimal shown ++ e)))))))) is_key
    ∙ ap (λ s. a ++ (made ++ (b ++ (s ++ (c ++ (step ++ (d ++ (signed_decimal shown ++ e)))))))) is_session
    ∙ ap (λ z. a ++ (made ++ (b ++ (told ++ (c ++ (step ++ (d ++ (signed_decimal z ++ e)))))))) is_base ∙ simp append_assoc refl

pub whole_shown : (text first made a envelope told b size c body : List ℕ) → text ≡ first ++ (a ++ (envelope ++ (b ++ (size ++ (c ++ body)))))
    → first ≡ made → envelope ≡ told → text ≡ made ++ a ++ told ++ b ++ size ++ c ++ body
whole_shown text first made a envelope told b size c body is is_first is_envelope =
    is ∙ ap (λ f. f ++ (a ++ (envelope ++ (b ++ (size ++ (c ++ body)))))) is_first
    ∙ ap (λ l. made ++ (a ++ (l ++ (b ++ (size ++ (c ++ body)))))) is_envelope ∙ simp append_assoc refl
