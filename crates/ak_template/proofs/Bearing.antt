-- The numbers of a field's clozes are those of its gaps.
use Rattle.std.proofs.Common.{◌≡◌, ◌↔◌, ℕ, zero, suc, pos, ◌+◌, ◌<◌, ◌≤◌, ◌⊎◌, inl, inr, ◌==◌, ◌||◌, Bool, true, false, cond, ℤ, Result, Ok, Err, IfOk, IsTrue, List, [], ◌∷◌, refl, ap, sym, ◌∙◌, arith}
use Rattle.std.specs.List.{list_any}
use Rattle.std.specs.Ordering.{int_eq}
use Rattle.std.proofs.lemmas.Bool.Decides.{Decides-eqb, Decides-int_eq, leb_tells}
use Rattle.std.proofs.lemmas.Int.{ints}
use Rattle.std.proofs.lemmas.List.Folds.{list_any-append}
use Rattle.ak_template.specs.declared.clozes.Part.{Part}
use Rattle.ak_template.specs.declared.clozes.Part.TheVariants.{Bare, Gap}
use Rattle.ak_template.specs.Clozes.{parts, gaps, among, borne, numbers_of, AreGaps}
use Rattle.ak_template.proofs.Numbering.{all_gaps}

order : (a b : ℕ) → (a ≤ b) ⊎ (b < a)
order a b = elim (leb_tells a b) as (λ _. (a ≤ b) ⊎ (b < a)) [ inl h ↦ inl h.1 | inr h ↦ inr h.1 ]

or_nothing : (b : Bool) → (b || false) ≡ b
or_nothing true = refl
or_nothing false = refl

-- another number, if it is there
other_number : (n m : ℕ) (v : Bool) → (pos n ≡ pos m → ⊥) → list_any (int_eq (pos n)) (cond v (pos m ∷ []) []) ≡ false
other_number n m true apart =
    elim (int_eq (pos n) (pos m)) as (λ b. int_eq (pos n) (pos m) ≡ b → (b || false) ≡ false) [
      | true ↦ λ e. absurd (apart ((Decides-int_eq (pos n) (pos m)).0 e))
      | false ↦ λ e. refl
    ] refl
other_number n m false apart = refl

-- the number itself, if it is there
own_number : (n : ℕ) (v : Bool) → list_any (int_eq (pos n)) (cond v (pos n ∷ []) []) ≡ v
own_number n true = ap (λ b. b || false) ((Decides-int_eq (pos n) (pos n)).1 refl)
own_number n false = refl

-- a number that is not up to the last one is not there
not_borne : (n last : ℕ) (numbers : List ℕ) → ((k : ℕ) → 0 < k → k ≤ last → pos n ≡ pos k → ⊥) → list_any (int_eq (pos n)) (borne last numbers) ≡ false
unfolding borne
not_borne n zero numbers apart = refl
not_borne n (suc last) numbers apart =
    list_any-append (int_eq (pos n)) (borne last numbers) (cond (among (last + 1) numbers) (pos (last + 1) ∷ []) [])
    ∙ ap (λ b. b || list_any (int_eq (pos n)) (cond (among (last + 1) numbers) (pos (last + 1) ∷ []) [])) (not_borne n last numbers (λ k some few. apart k some (omega (arith, few))))
    ∙ other_number n (last + 1) (among (last + 1) numbers) (apart (last + 1) (omega arith) (omega arith))

-- one that is up to the last one is there if it is among the numbers
is_borne : (n last : ℕ) (numbers : List ℕ) → 0 < n → n ≤ last → list_any (int_eq (pos n)) (borne last numbers) ≡ among n numbers
unfolding borne
is_borne n zero numbers some few = absurd (omega (arith, some, few))
is_borne n (suc last) numbers some few =
    list_any-append (int_eq (pos n)) (borne last numbers) (cond (among (last + 1) numbers) (pos (last + 1) ∷ []) []) ∙ by_last (λ low. is_borne n last numbers some low) (is_last n last few)
  where
    is_last : (n last : ℕ) → n ≤ suc last → (n ≤ last) ⊎ (n ≡ last + 1)
    is_last n last few = elim (order n last) as (λ _. (n ≤ last) ⊎ (n ≡ last + 1)) [ inl low ↦ inl low | inr high ↦ inr (omega (arith, few, high)) ]

    by_last : (n ≤ last → list_any (int_eq (pos n)) (borne last numbers) ≡ among n numbers) → (n ≤ last) ⊎ (n ≡ last + 1) → (list_any (int_eq (pos n)) (borne last numbers) || list_any (int_eq (pos n)) (cond (among (last + 1) numbers) (pos (last + 1) ∷ []) [])) ≡ among n numbers
    by_last below (inl low) =
        ap (λ b. list_any (int_eq (pos n)) (borne last numbers) || b) (other_number n (last + 1) (among (last + 1) numbers) (λ e. omega (arith, ints, e, low)))
        ∙ or_nothing (list_any (int_eq (pos n)) (borne last numbers)) ∙ below low
    by_last below (inr own) =
        ap (λ b. b || list_any (int_eq (pos n)) (cond (among (last + 1) numbers) (pos (last + 1) ∷ []) [])) (not_borne n last numbers (λ k low high e. omega (arith, ints, e, own, high)))
        ∙ ap (λ m. list_any (int_eq (pos n)) (cond (among m numbers) (pos m ∷ []) [])) (sym own)
        ∙ own_number n (among n numbers)

-- the gaps have numbers from 1 to 500
within : (ps : List Part) (n : ℕ) → AreGaps ps → among n (gaps ps) ≡ true → (0 < n) × (n < 501)
within [] n h is = cc
within (Bare words ∷ ps) n h is = within ps n h is
within (Gap number inside ∷ ps) n h is =
    elim (number == n) as (λ b. (number == n) ≡ b → (b || among n (gaps ps)) ≡ true → (0 < n) × (n < 501)) [
      | true ↦ λ e k. (let same : number ≡ n = (Decides-eqb number n).0 e in (omega (arith, same, h.1), omega (arith, same, h.2)))
      | false ↦ λ e k. within ps n h.3 k
    ] refl is

not_among : (ps : List Part) (n : ℕ) → AreGaps ps → ((0 < n) × (n < 501) → ⊥) → among n (gaps ps) ≡ false
not_among ps n h out = elim (among n (gaps ps)) as (λ b. among n (gaps ps) ≡ b → b ≡ false) [ true ↦ λ e. absurd (out (within ps n h e)) | false ↦ λ e. refl ] refl

same_numbers : (text : List ℕ) (n : ℕ) → list_any (int_eq (pos n)) (numbers_of text) ≡ among n (gaps (parts text))
same_numbers text n = by_range (in_range n)
  where
    in_range : (n : ℕ) → ((0 < n) × (n ≤ 500)) ⊎ ((n ≡ 0) ⊎ (500 < n))
    in_range zero = inr (inl refl)
    in_range (suc n) = elim (order (suc n) 500) as (λ _. ((0 < suc n) × (suc n ≤ 500)) ⊎ ((suc n ≡ 0) ⊎ (500 < suc n))) [ inl low ↦ inl (omega arith, low) | inr high ↦ inr (inr high) ]

    by_range : ((0 < n) × (n ≤ 500)) ⊎ ((n ≡ 0) ⊎ (500 < n)) → list_any (int_eq (pos n)) (numbers_of text) ≡ among n (gaps (parts text))
    by_range (inl both) = is_borne n 500 (gaps (parts text)) both.0 both.1
    by_range (inr (inl none)) =
        not_borne n 500 (gaps (parts text)) (λ k low high e. omega (arith, ints, e, none, low))
        ∙ sym (not_among (parts text) n (all_gaps text) (λ both. omega (arith, both.0, none)))
    by_range (inr (inr high)) =
        not_borne n 500 (gaps (parts text)) (λ k low last e. omega (arith, ints, e, high, last))
        ∙ sym (not_among (parts text) n (all_gaps text) (λ both. omega (arith, both.1, high)))

pub found_each : {E : Type 0} (text : List ℕ) (r : Result (List ℤ) E) → IfOk r (λ found. found ≡ numbers_of text) → IfOk r (λ found. (n : ℕ) → IsTrue (list_any (int_eq (pos n)) found) ↔ IsTrue (among n (gaps (parts text))))
found_each text (Ok found) h = λ n. (let same = ap (list_any (int_eq (pos n))) h ∙ same_numbers text n in (λ is. sym same ∙ is, λ is. same ∙ is))
found_each text (Err fault) h = tt
