-- A text at its first space.
use Rattle.std.proofs.Common.{◌≡◌, ℕ, zero, suc, ◌==◌, Bool, true, false, not, ◌&&◌, ◌||◌, List, [], ◌∷◌, ◌++◌, refl, sym, ap, cond, arith}
use Rattle.std.specs.Prelude.{codes}
use Rattle.std.proofs.lemmas.Bool.{and_parts, not-true, eqb-true}
use Rattle.ak_base.specs.Cuts.{begins, has, front, behind}

-- no byte of the text is a space
abbrev pub is_spaceless : List ℕ → Bool
is_spaceless [] = true
is_spaceless (byte ∷ bytes) = not (32 == byte) && is_spaceless bytes

other_byte : (byte : ℕ) (bytes : List ℕ) → is_spaceless (byte ∷ bytes) ≡ true → ((32 == byte) ≡ false) × (is_spaceless bytes ≡ true)
other_byte byte bytes h = let p = and_parts (not (32 == byte)) (is_spaceless bytes) h in (not-true (32 == byte) p.0, p.1)

-- a word, and a space after it
pub record IsCut (word rest text : List ℕ) : Type 0 where
  pub found : has (codes " ") text ≡ true
  pub before : front (codes " ") text ≡ word
  pub after : behind (codes " ") text ≡ rest

pub cut_at : (word rest : List ℕ) → is_spaceless word ≡ true → IsCut word rest (word ++ (32 ∷ rest))
cut_at [] rest h = record { found = refl; before = refl; after = refl }
cut_at (byte ∷ word) rest h =
    let other = other_byte byte word h in
    let later = cut_at word rest other.1 in
    record {
      found = rw other.0 later.found;
      before = rw other.0 (ap (λ bytes. byte ∷ bytes) later.before);
      after = rw other.0 later.after;
    }

-- a word alone has no space
pub uncut : (word : List ℕ) → is_spaceless word ≡ true → has (codes " ") word ≡ false
uncut [] h = refl
uncut (byte ∷ word) h = let other = other_byte byte word h in rw other.0 (uncut word other.1)

-- a text that has a space is what stands before the first one, the space, and what stands after it
pub cut_back : (text : List ℕ) → has (codes " ") text ≡ true → text ≡ front (codes " ") text ++ (32 ∷ behind (codes " ") text)
cut_back [] h = grind (arith, h)
cut_back (byte ∷ text) h =
    elim (32 == byte) as (λ b. (32 == byte) ≡ b → (byte ∷ text) ≡ front (codes " ") (byte ∷ text) ++ (32 ∷ behind (codes " ") (byte ∷ text))) [
      | true ↦ λ e. rw e (ap (λ x. x ∷ text) (sym (eqb-true 32 byte e)))
      | false ↦ λ e. rw e (ap (λ bytes. byte ∷ bytes) (cut_back text (rw e at h)))
    ] refl
