-- Of some cards, one whose path is nearest to another path: each deck above that path which has any of them has this one.
use Rattle.std.proofs.Common.{◌≡◌, ◌⊎◌, inl, inr, ⊎_elim, Bool, true, false, ◌&&◌, cond, ◌==◌, ℕ, suc, List, [], ◌∷◌, ◌++◌, length, filter, refl, sym, ap, subst, ◌∙◌, true≢false}
use Rattle.std.specs.Cmp.Lexicographic.{pointwise, bytes_decides}
use Rattle.ak_base.specs.Paths.{are_first_parts}
use Rattle.ak_queue.specs.Choices.{count_under}
use Rattle.ak_queue.specs.Homes.{Parts}
use Rattle.ak_queue.specs.Orders.{NewKey}

-- each path above x that leads to z leads to y
abbrev Nearer : Parts → Parts → Parts → Type 0
Nearer x y z = (p : Parts) → are_first_parts p x ≡ true → are_first_parts p z ≡ true → are_first_parts p y ≡ true

both_true : (a b : Bool) → (a && b) ≡ true → (a ≡ true) × (b ≡ true)
both_true true b h = (refl, h)
both_true false b h = absurd (true≢false (sym h))

same : (x y : List ℕ) → pointwise ◌==◌ x y ≡ true → x ≡ y
same x y h = (bytes_decides x y).0 h

-- nothing below no parts
above_none : (x y z : Parts) → x ≡ [] → Nearer x y z
above_none x y z none [] h g = refl
above_none x y z none (r ∷ rs) h g = absurd (true≢false (sym h ∙ ap (are_first_parts (r ∷ rs)) none))

leads_to_none : (x y z : Parts) → z ≡ [] → Nearer x y z
leads_to_none x y z none [] h g = refl
leads_to_none x y z none (r ∷ rs) h g = absurd (true≢false (sym g ∙ ap (are_first_parts (r ∷ rs)) none))

-- a first part that is not shared
other_part : (a c : List ℕ) (xs y zs : Parts) → pointwise ◌==◌ a c ≡ false → Nearer (a ∷ xs) y (c ∷ zs)
other_part a c xs y zs differ [] h g = refl
other_part a c xs y zs differ (r ∷ rs) h g =
    let one : r ≡ a = same r a (both_true _ _ h).0 in
    let two : pointwise ◌==◌ r c ≡ true = (both_true _ _ g).0 in
    absurd (true≢false (sym (subst (λ w. pointwise ◌==◌ w c ≡ true) one two) ∙ differ))

-- a first part that is shared
one_more_part : (a b c : List ℕ) (xs ys zs : Parts) → pointwise ◌==◌ a b ≡ true → Nearer xs ys zs → Nearer (a ∷ xs) (b ∷ ys) (c ∷ zs)
one_more_part a b c xs ys zs shared nearer [] h g = refl
one_more_part a b c xs ys zs shared nearer (r ∷ rs) h g =
    let one : r ≡ a = same r a (both_true _ _ h).0 in
    let first : pointwise ◌==◌ r b ≡ true = subst (λ w. pointwise ◌==◌ w b ≡ true) (sym one) shared in
    ap (λ v. v && are_first_parts rs ys) first ∙ nearer rs (both_true _ _ h).1 (both_true _ _ g).1

-- of two paths one is nearer
pub nearer : (x y z : Parts) → Nearer x y z ⊎ Nearer x z y
nearer [] y z = inl (above_none [] y z refl)
nearer (a ∷ xs) [] z = inr (leads_to_none (a ∷ xs) z [] refl)
nearer (a ∷ xs) (b ∷ ys) [] = inl (leads_to_none (a ∷ xs) (b ∷ ys) [] refl)
nearer (a ∷ xs) (b ∷ ys) (c ∷ zs) =
    elim (pointwise ◌==◌ a b) as (λ v. pointwise ◌==◌ a b ≡ v → Nearer (a ∷ xs) (b ∷ ys) (c ∷ zs) ⊎ Nearer (a ∷ xs) (c ∷ zs) (b ∷ ys)) [
      | false ↦ λ e. inr (other_part a b xs (c ∷ zs) ys e)
      | true ↦ λ e.
          elim (pointwise ◌==◌ a c) as (λ v. pointwise ◌==◌ a c ≡ v → Nearer (a ∷ xs) (b ∷ ys) (c ∷ zs) ⊎ Nearer (a ∷ xs) (c ∷ zs) (b ∷ ys)) [
            | false ↦ λ f. inl (other_part a c xs (b ∷ ys) zs f)
            | true ↦ λ f. ⊎_elim (λ n. inl (one_more_part a b c xs ys zs e n)) (λ n. inr (one_more_part a c b xs zs ys f n)) (nearer xs ys zs)
          ] refl
    ] refl

-- one of the cards, after `front` and before `back`: a deck above x that does not have it has none of them
pub record Nearest (x : Parts) (cards : List NewKey) : Type 0 where
  pub front : List NewKey
  pub card : NewKey
  pub back : List NewKey
  pub is : cards ≡ front ++ card ∷ back
  pub none : (p : Parts) → are_first_parts p x ≡ true → are_first_parts p card.0 ≡ false → count_under p cards ≡ 0

-- a card that is not under it counts for nothing
pub passed_over : (p : Parts) (card : NewKey) (cards : List NewKey) → are_first_parts p card.0 ≡ false → count_under p (card ∷ cards) ≡ count_under p cards
passed_over p card cards h = ap (λ v. length (cond v (card ∷ filter (λ (c : NewKey). are_first_parts p c.0) cards) (filter (λ (c : NewKey). are_first_parts p c.0) cards))) h

pub counted : (p : Parts) (card : NewKey) (cards : List NewKey) → are_first_parts p card.0 ≡ true → count_under p (card ∷ cards) ≡ suc (count_under p cards)
counted p card cards h = ap (λ v. length (cond v (card ∷ filter (λ (c : NewKey). are_first_parts p c.0) cards) (filter (λ (c : NewKey). are_first_parts p c.0) cards))) h

-- what leads to the one does not, if it does not lead to the nearer one
not_led : (x y z p : Parts) → Nearer x y z → are_first_parts p x ≡ true → are_first_parts p y ≡ false → are_first_parts p z ≡ false
not_led x y z p n above not =
    elim (are_first_parts p z) as (λ v. are_first_parts p z ≡ v → v ≡ false) [
      | true ↦ λ e. absurd (true≢false (sym (n p above e) ∙ not))
      | false ↦ λ e. refl
    ] refl

with_first : (x : Parts) (first : NewKey) (cards : List NewKey) → Nearest x cards → Nearest x (first ∷ cards)
with_first x first cards n =
    ⊎_elim
    (λ near. record {
      front = first ∷ n.front;
      card = n.card;
      back = n.back;
      is = ap (λ rest. first ∷ rest) n.is;
      none = λ p above not. passed_over p first cards (not_led x n.card.0 first.0 p near above not) ∙ n.none p above not;
    })
    (λ near. record {
      front = [];
      card = first;
      back = cards;
      is = refl;
      none = λ p above not. passed_over p first cards not ∙ n.none p above (not_led x first.0 n.card.0 p near above not);
    })
    (nearer x n.card.0 first.0)

-- some card is nearest
pub nearest : (x : Parts) (first : NewKey) (cards : List NewKey) → Nearest x (first ∷ cards)
nearest x first [] = record {
  front = [];
  card = first;
  back = [];
  is = refl;
  none = λ p above not. passed_over p first [] not;
}
nearest x first (next ∷ cards) = with_first x first (next ∷ cards) (nearest x next cards)
