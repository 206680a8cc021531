-- What stands beside known keys, read from its text and written again.
use Rattle.std.specs.Prelude.{◌≡◌, ℕ, ◌≤◌, Bool, true, false, T, not, ◌&&◌, ◌==◌, if◌then◌else◌, List, [], ◌∷◌, Some, None, option_and_then, codes}
use Rattle.std.proofs.Common.{refl, sym, ap, subst, ◌∙◌, arith}
use Rattle.std.proofs.Math.Bool.{Bool-set}
use Rattle.std.proofs.Math.Path.{PathP, to_path_p}
use Rattle.std.specs.Cmp.Lexicographic.{pointwise}
use Rattle.std.specs.Option.{option_map_or}
use Rattle.serde_json.specs.Data.{Data, null, boolean, number, string, array, Members, no_members, object, depth}
use Rattle.serde_json.specs.Find.{as_object}
use Rattle.serde_json.specs.Read.{read, max_depth}
use Rattle.serde_json.specs.Written.{compact_text, has_float}
use Rattle.serde_json.proofs.OnLiterals.{serde_json_on_literals}
use Rattle.ak_base.specs.Rests.{is_written_as, members_of, is_plain, is_rest}

-- a text is itself
pub same_bytes : (xs : List ℕ) → pointwise ◌==◌ xs xs ≡ true
same_bytes [] = refl
same_bytes (x ∷ xs) = grind (arith, same_bytes xs)

-- a text that a value reads as and is written as
pub members_of-written : (text : List ℕ) (value : Data) → read text ≡ Some value → text ≡ compact_text value → members_of text ≡ as_object value
unfolding members_of
members_of-written text value reads is =
    ap (option_and_then (λ value. if is_written_as text value then as_object value else None)) reads
    ∙ ap (λ b. if b then as_object value else None) (ap (pointwise ◌==◌ (compact_text value)) is ∙ same_bytes (compact_text value))

-- the empty object
members_of-none : members_of (codes "{}") ≡ Some no_members
unfolding members_of serde_json_on_literals
members_of-none = refl

-- and it holds no key of anybody's
pub empty_is_rest : (passes : Members → Bool) → passes no_members ≡ true → is_rest passes (codes "{}") ≡ true
unfolding is_rest
empty_is_rest passes is = ap (λ members. option_map_or (λ members. is_plain members && passes members) members false) members_of-none ∙ is

-- no test both fails and passes
pub no_rest : false ≡ true → ⊥
no_rest is = subst (λ b. T (not b)) is tt

-- a plain object can be written and is read again
pub plain_value : (value : Data) (passes : Members → Bool) → option_map_or (λ members. is_plain members && passes members) (as_object value) false ≡ true
    → (has_float value ≡ false) × (depth value ≤ max_depth)
plain_value null passes is = absurd (no_rest is)
plain_value (boolean b) passes is = absurd (no_rest is)
plain_value (number n) passes is = absurd (no_rest is)
plain_value (string s) passes is = absurd (no_rest is)
plain_value (array ds) passes is = absurd (no_rest is)
plain_value (object ms) passes is = grind (arith, is)

-- the text of such an object is a rest
pub written_is_rest : (text : List ℕ) (value : Data) (passes : Members → Bool) → option_map_or (λ members. is_plain members && passes members) (as_object value) false ≡ true
    → members_of text ≡ as_object value → is_rest passes text ≡ true
unfolding is_rest
written_is_rest text value passes is members = ap (λ members. option_map_or (λ members. is_plain members && passes members) members false) members ∙ is

-- what a rest reads as
pub rest_reads : (text : List ℕ) (value : Data) (passes : Members → Bool) → is_rest passes text ≡ true → read text ≡ Some value → as_object value ≡ members_of text
unfolding is_rest members_of
rest_reads text value passes is reads =
    elim (is_written_as text value) as (λ b. is_written_as text value ≡ b → as_object value ≡ members_of text) [
      | true ↦ λ written. sym (ap (option_and_then (λ value. if is_written_as text value then as_object value else None)) reads ∙ ap (λ b. if b then as_object value else None) written)
      | false ↦ λ other. absurd (no_rest (sym (
          ap (λ read. option_map_or (λ members. is_plain members && passes members) (option_and_then (λ value. if is_written_as text value then as_object value else None) read) false) reads
          ∙ ap (λ b. option_map_or (λ members. is_plain members && passes members) (if b then as_object value else None) false) other) ∙ is))
    ] refl

-- a rest is read
pub rest_is_read : (text : List ℕ) (passes : Members → Bool) → is_rest passes text ≡ true → read text ≡ None → ⊥
unfolding is_rest members_of
rest_is_read text passes is none =
    no_rest (sym (ap (λ read. option_map_or (λ members. is_plain members && passes members) (option_and_then (λ value. if is_written_as text value then as_object value else None) read) false) none) ∙ is)

-- what shows that rests of one text are rests is one
pub same_proof : (passes : Members → Bool) {x y : List ℕ} (p : x ≡ y) (u : is_rest passes x ≡ true) (v : is_rest passes y ≡ true) → PathP (λ i. is_rest passes (p i) ≡ true) u v
same_proof passes p u v = to_path_p (λ i. is_rest passes (p i) ≡ true) (Bool-set _ _ _ _)
