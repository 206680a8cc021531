-- What stands around a sign, a space and a tag.
use Rattle.std.proofs.Common.{◌≡◌, ℕ, ◌+◌, ◌-◌, ◌<◌, true, false, ◌&&◌, ◌||◌, ◌==◌, cond, Option, Some, None, IfSome, IfNone, List, [], ◌∷◌, ◌++◌, length, take, drop, refl, ap, sym, ◌∙◌, arith}
use Rattle.std.specs.Prelude.{codes}
use Rattle.std.proofs.Math.Logic.{◌≢◌}
use Rattle.std.proofs.lemmas.Str.Pattern.{strip_prefix_char, strip_suffix_char}
use Rattle.std.specs.Option.{MatchOption}
use Rattle.std.specs.Str.Pattern.{FindsCharPrefix, FindsCharSuffix}
use denote.Ref.{Bor}
use Rattle.ak_base.specs.Cuts.{begins, has, behind}
use Rattle.ak_template.specs.Pieces.{has_tag, without_front, without_back, joined}

pub not_sign : (c : ℕ) (xs : List ℕ) → ((rest : List ℕ) → xs ≢ c ∷ rest) → begins (c ∷ []) xs ≡ false
not_sign c [] h = refl
not_sign c (b ∷ bs) h = elim (c == b) as (λ v. (c == b) ≡ v → (v && true) ≡ false) [ true ↦ λ e. let s : b ≡ c = grind (arith, e) in absurd (h bs (ap (λ x. x ∷ bs) s)) | false ↦ λ e. refl ] refl

pub no_sign : (c : ℕ) (xs : List ℕ) (r : Option (Bor (List ℕ))) → c < 128 → MatchOption r (FindsCharPrefix c xs None) (λ x. (n : ℕ) × FindsCharPrefix c xs (Some n) × (x.now ≡ drop n xs) × (length x.now + n ≡ length xs)) → IfNone r (begins (c ∷ []) xs ≡ false)
no_sign c xs None l h = not_sign c xs (strip_prefix_char c xs None h l)
no_sign c xs (Some x) l h = tt

pub nothing_behind : (mark xs : List ℕ) → has mark xs ≡ false → behind mark xs ≡ []
nothing_behind mark [] h = refl
nothing_behind mark (b ∷ bs) h = elim (begins mark (b ∷ bs)) as (λ v. (v || has mark bs) ≡ false → cond v (drop (length mark) (b ∷ bs)) (behind mark bs) ≡ []) [ true ↦ λ e. grind (arith, e) | false ↦ λ e. nothing_behind mark bs e ] h

pub no_opening : (xs : List ℕ) → has (codes "{{") xs ≡ false → has_tag xs ≡ false
no_opening xs h = ap (has (codes "}}")) (nothing_behind (codes "{{") xs h)

pub front_step : (xs rest : List ℕ) → begins (codes " ") xs ≡ true → rest ≡ drop 1 xs → without_front xs ≡ without_front rest
front_step [] rest h e = sym (ap without_front e)
front_step (b ∷ bs) rest h e = ap (λ v. cond v (without_front bs) (b ∷ bs)) h ∙ sym (ap without_front e)

pub front_done : (xs : List ℕ) → begins (codes " ") xs ≡ false → without_front xs ≡ xs
front_done [] h = refl
front_done (b ∷ bs) h = ap (λ v. cond v (without_front bs) (b ∷ bs)) h

pub back_step : (xs : List ℕ) → without_back (xs ++ (32 ∷ [])) ≡ without_back xs
back_step [] = refl
back_step (b ∷ bs) = ap (joined b) (back_step bs)

pub back_shorter : (xs rest : List ℕ) → xs ≡ rest ++ (32 ∷ []) → without_back xs ≡ without_back rest
back_shorter xs rest e = ap without_back e ∙ back_step rest

pub back_done : (xs : List ℕ) → ((rest : List ℕ) → xs ≢ rest ++ (32 ∷ [])) → without_back xs ≡ xs
back_done [] h = refl
back_done (b ∷ []) h = elim (b == 32) as (λ v. (b == 32) ≡ v → cond v [] (b ∷ []) ≡ b ∷ []) [ true ↦ λ e. let s : b ≡ 32 = grind (arith, e) in absurd (h [] (ap (λ x. x ∷ []) s)) | false ↦ λ e. refl ] refl
back_done (b ∷ c ∷ bs) h = ap (joined b) (back_done (c ∷ bs) (λ rest e. h (b ∷ rest) (ap (λ xs. b ∷ xs) e)))

pub no_space : (xs : List ℕ) (r : Option (Bor (List ℕ))) → MatchOption r (FindsCharSuffix 32 xs None) (λ x. (n : ℕ) × FindsCharSuffix 32 xs (Some n) × (x.now ≡ take (length xs - n) xs) × (length x.now + n ≡ length xs)) → IfNone r (without_back xs ≡ xs)
no_space xs None h = back_done xs (strip_suffix_char 32 xs None h (omega arith))
no_space xs (Some x) h = tt

pub one_space : (xs : List ℕ) (r : Option (Bor (List ℕ))) → MatchOption r (FindsCharSuffix 32 xs None) (λ x. (n : ℕ) × FindsCharSuffix 32 xs (Some n) × (x.now ≡ take (length xs - n) xs) × (length x.now + n ≡ length xs)) → IfSome r (λ x. without_back xs ≡ without_back x.now)
one_space xs None h = tt
one_space xs (Some x) h = back_shorter xs x.now (strip_suffix_char 32 xs (Some x) h (omega arith))
