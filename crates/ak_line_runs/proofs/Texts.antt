-- The text of a line.
use Rattle.std.proofs.Common.{◌≡◌, ℕ, Bool, true, false, List, Some, None, refl, sym, ap, ◌∙◌, subst, codes}
use Rattle.std.proofs.lemmas.Str.{IsUtf8-from_is_utf8, is_utf8-from_IsUtf8}
use Rattle.std.specs.Prelude.{if◌then◌else◌}
use Rattle.std.specs.Str.{IsUtf8, is_utf8}
use Rattle.ak_line_runs.specs.LineTexts.{text_in, textless}
use Rattle.ak_io.specs.declared.lines.Line.{Line}
use Rattle.ak_io.specs.declared.lines.Line.TheVariants.{Whole}

never : (b : Bool) → (b ≡ true → ⊥) → b ≡ false
never true h = absurd (h refl)
never false h = refl

-- bytes that are UTF-8
pub text_known : (line : Line) (bytes given text : List ℕ) → line ≡ Whole bytes → given ≡ bytes → text ≡ given → IsUtf8 given → text_in line ≡ Some text
text_known line bytes given text is same told utf8 =
    let ok : is_utf8 bytes ≡ true = is_utf8-from_IsUtf8 bytes (subst IsUtf8 same utf8) in
    ap text_in is ∙ ap (λ b. if b then Some bytes else None) ok ∙ ap Some (sym (told ∙ same))

-- bytes that are not
pub no_text : (line : Line) (bytes given : List ℕ) → line ≡ Whole bytes → given ≡ bytes → (IsUtf8 given → ⊥) → (text_in line ≡ None) × (codes "not text" ≡ textless line)
no_text line bytes given is same other =
    let off : is_utf8 bytes ≡ false = never (is_utf8 bytes) (λ e. other (subst IsUtf8 (sym same) (IsUtf8-from_is_utf8 bytes e))) in
    (ap text_in is ∙ ap (λ b. if b then Some bytes else None) off, sym (ap textless is))
