-- Texts that begin with no byte order mark.
use Rattle.std.proofs.Common.{inl, inr, ◌≡◌, ℕ, suc, ◌==◌, Bool, true, false, ◌&&◌, List, [], ◌∷◌, ◌++◌, refl, ap, arith}
use Rattle.std.proofs.lemmas.Bool.{cases_Bool}
use Rattle.std.specs.Prelude.{length}
use Rattle.csv.specs.Reading.{is_bom, strip_bom}
use Rattle.csv.specs.Writing.{default_writer, escaped, field_text, needs_quotes}

and_off : (a b : Bool) → b ≡ false → (a && b) ≡ false
and_off true b e = e
and_off false b e = refl

-- a first byte that is not the mark's
pub strip_other : (byte : ℕ) (rest : List ℕ) → (byte == 0xEF) ≡ false → strip_bom (byte ∷ rest) ≡ byte ∷ rest
unfolding strip_bom
strip_other byte [] e = refl
strip_other byte (second ∷ []) e = refl
strip_other byte (second ∷ third ∷ rest) e = rw e refl

not_shorter : (a b c : ℕ) (rest : List ℕ) → rest ≡ a ∷ b ∷ c ∷ rest → ⊥
not_shorter a b c rest e = let same : length rest ≡ suc (suc (suc (length rest))) = ap length e in omega (arith, same)

-- a text that begins with no mark, and then a comma
pub strip_plain : (text tail : List ℕ) → strip_bom text ≡ text → strip_bom (text ++ (44 ∷ tail)) ≡ text ++ (44 ∷ tail)
unfolding strip_bom
strip_plain [] tail plain = strip_other 44 tail refl
strip_plain (a ∷ []) [] plain = refl
strip_plain (a ∷ []) (next ∷ tail) plain = rw (and_off (a == 0xEF) _ refl) refl
strip_plain (a ∷ b ∷ []) tail plain = rw (and_off ((a == 0xEF) && (b == 0xBB)) _ refl) refl
strip_plain (a ∷ b ∷ c ∷ rest) tail plain = elim (cases_Bool (is_bom a b c)) [
  | inl mark ↦ absurd (not_shorter a b c rest (rw mark at plain))
  | inr other ↦ rw other refl
]

-- the text of a field, and then a comma
pub strip_field : (field tail : List ℕ) → strip_bom field ≡ field
    → strip_bom (field_text default_writer field ++ (44 ∷ tail)) ≡ field_text default_writer field ++ (44 ∷ tail)
strip_field field tail plain = elim (cases_Bool (needs_quotes default_writer field)) [
  | inl quotes ↦ rw quotes (strip_other 34 ((escaped default_writer field ++ (34 ∷ [])) ++ (44 ∷ tail)) refl)
  | inr none ↦ rw none (strip_plain field tail plain)
]
