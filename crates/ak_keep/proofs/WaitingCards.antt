-- The places where cards wait, one after the other.
use Rattle.std.specs.Prelude.{◌≡◌, ◌⊎◌, ℕ, ℤ, pos, negsuc, ◌+◌, ◌^◌, ◌<◌, ◌≤◌, ◌<ℤ◌, Bool, true, false, not, ◌&&◌, nat_lt, if◌then◌else◌, Option, Some, None, List, [], ◌∷◌, length}
use Rattle.std.proofs.Common.{refl, sym, ap, subst, ◌∙◌, arith, inl, inr, true≢false, w64, SFits}
use Rattle.std.proofs.lemmas.Int.{ints}
use Rattle.std.specs.Cmp.{IsTotalOrder, then_total, on_total, int_cmp_total}
use Rattle.std.specs.FinMap.{int_cmp-IsAntisymmetric}
use Rattle.std.specs.Int.{int_gap}
use Rattle.std.specs.List.{AllByRecursion}
use Rattle.std.specs.Ordering.{int_cmp, int_eq, is_lt, ordering_then}
use Rattle.std.specs.declared.cmp.Ordering.{Ordering}
use Rattle.std.specs.declared.cmp.Ordering.TheVariants.{Less, Equal, Greater}
use Rattle.ak_base.specs.declared.cards.Card.{Card}
use Rattle.ak_keep.proofs.Paging.{less_than}
use Rattle.ak_keep.proofs.Walking.{gap_falls}
use Rattle.ak_keep.specs.QueueWalks.{is_to_come, passed, places_after}
use Rattle.ak_keep.specs.WaitingCards.{AscendsAfter, DueKey, IsOneOf, IsWaitingPage, comes_after, due_cmp, is_due_by, key_of, last_place, waits}
use Rattle.ak_keep.specs.declared.queue_walks.QueueWalk.{QueueWalk}
use Rattle.ak_keep.specs.declared.queue_walks.Waiting.{Waiting}

-- ---- the order of places
pub due_total : IsTotalOrder due_cmp
due_total = then_total (on_total (λ (k : DueKey). k.0) int_cmp_total) (on_total (λ (k : DueKey). k.1) int_cmp_total)

pub less_from : (r : Ordering) → is_lt r ≡ true → r ≡ Less
less_from Less h = refl
less_from Equal h = absurd (true≢false (sym h))
less_from Greater h = absurd (true≢false (sym h))

-- what comes after a place that comes after another, comes after the other
pub comes_later : (past : Option DueKey) (x y : DueKey) → comes_after past x ≡ true → due_cmp x y ≡ Less → comes_after past y ≡ true
comes_later None x y h less = refl
comes_later (Some past) x y h less = ap is_lt (due_total.trans past x y (less_from _ h) less)

-- what comes after the last of some cards, comes after each of them
pub last_after : (past : Option DueKey) (page : List Card) (key : DueKey) → AscendsAfter past page → comes_after (last_place past page) key ≡ true
    → (comes_after past key ≡ true) × AllByRecursion (λ d. due_cmp (key_of d) key ≡ Less) page
last_after past [] key ascends h = (h, tt)
last_after past (c ∷ page) key ascends h =
    let rest = last_after (Some (key_of c)) page key ascends.1 h in
    let less : due_cmp (key_of c) key ≡ Less = less_from _ rest.0 in
    (comes_later past (key_of c) key ascends.0 less, (less, rest.1))

-- ---- the next page
-- the next page of a walk over the cards that are held
pub record IsNextPage (held : Card → Type 0) (was now : QueueWalk) (page : List Card) : Type 0 where
  pub sound : AllByRecursion (λ c. held c × (is_to_come was c ≡ true)) page
  -- each card that was to come is in the page, or is still to come
  pub whole : (c : Card) → held c → is_to_come was c ≡ true → IsOneOf page c ⊎ (is_to_come now c ≡ true)
  -- what is still to come was to come, and comes after the page
  pub later : (c : Card) → is_to_come now c ≡ true → (is_to_come was c ≡ true) × AllByRecursion (λ d. due_cmp (key_of d) (key_of c) ≡ Less) page

and_second : (a b : Bool) → (a && b) ≡ true → b ≡ true
and_second true b h = h
and_second false b h = absurd (true≢false (sym h))

with_third : (a b x y : Bool) → (a && (b && x)) ≡ true → y ≡ true → (a && (b && y)) ≡ true
with_third true true x y h k = k
with_third true false x y h k = absurd (true≢false (sym h))
with_third false b x y h k = absurd (true≢false (sym h))

third : (a b x : Bool) → (a && (b && x)) ≡ true → x ≡ true
third a b x h = and_second b x (and_second a (b && x) h)

to_come : (walk : QueueWalk) (c : Card) → walk.done ≡ false → waits walk.waiting c ≡ true → is_to_come walk c ≡ true
to_come walk c going h = ap (λ d. not d && waits walk.waiting c) going ∙ h

all_mapped : {X : Type 0} (P Q : X → Type 0) → ((x : X) → P x → Q x) → (xs : List X) → AllByRecursion P xs → AllByRecursion Q xs
all_mapped P Q step [] h = tt
all_mapped P Q step (x ∷ xs) h = (step x h.0, all_mapped P Q step xs h.1)

not_full : (n limit : ℕ) → nat_lt n limit ≡ true → n ≡ limit → ⊥
not_full n limit few full = absurd (grind (arith, few, full))

pub next_page : (held : Card → Type 0) (was : QueueWalk) (limit : ℕ) (page : List Card) → was.done ≡ false → IsWaitingPage held was.waiting limit page → IsNextPage held was (passed limit page was) page
next_page held was limit page going h =
    let sound = all_mapped (λ c. held c × (waits was.waiting c ≡ true)) (λ c. held c × (is_to_come was c ≡ true)) (λ c one. (one.0, to_come was c going one.1)) page h.sound in
    elim (nat_lt (length page) limit) as (λ b. nat_lt (length page) limit ≡ b
    → IsNextPage held was (if b then record was { done = true } else record was { waiting = record was.waiting { past = last_place was.waiting.past page } }) page) [
      | true ↦ λ few. record {
        sound = sound;
        whole = λ c one is. short_page c (h.whole c one (and_second _ _ is)) few;
        later = λ c is. absurd (true≢false (sym is));
      }
      | false ↦ λ _. record {
        sound = sound;
        whole = λ c one is. full_page c (and_second _ _ is) (h.whole c one (and_second _ _ is));
        later = λ c is. after_page c (and_second _ _ is);
      }
    ] refl
  where
    short_page : (c : Card) → IsOneOf page c ⊎ ((length page ≡ limit) × (comes_after (last_place was.waiting.past page) (key_of c) ≡ true)) → nat_lt (length page) limit ≡ true
        → IsOneOf page c ⊎ (is_to_come (record was { done = true }) c ≡ true)
    short_page c (inl inside) few = inl inside
    short_page c (inr after) few = absurd (not_full (length page) limit few after.0)

    full_page : (c : Card) → waits was.waiting c ≡ true → IsOneOf page c ⊎ ((length page ≡ limit) × (comes_after (last_place was.waiting.past page) (key_of c) ≡ true))
        → IsOneOf page c ⊎ (is_to_come (record was { waiting = record was.waiting { past = last_place was.waiting.past page } }) c ≡ true)
    full_page c is (inl inside) = inl inside
    full_page c is (inr after) = inr (to_come (record was { waiting = record was.waiting { past = last_place was.waiting.past page } }) c going
        (with_third (int_eq c.queue was.waiting.queue) (is_due_by was.waiting.last c.due) (comes_after was.waiting.past (key_of c)) (comes_after (last_place was.waiting.past page) (key_of c)) is after.1))

    after_page : (c : Card) → waits (record was.waiting { past = last_place was.waiting.past page }) c ≡ true → (is_to_come was c ≡ true) × AllByRecursion (λ d. due_cmp (key_of d) (key_of c) ≡ Less) page
    after_page c is =
        let of_queue = int_eq c.queue was.waiting.queue in
        let by = is_due_by was.waiting.last c.due in
        let ahead = comes_after (last_place was.waiting.past page) (key_of c) in
        let after = last_after was.waiting.past page (key_of c) h.ascends (third of_queue by ahead is) in
        (to_come was c going (with_third of_queue by ahead (comes_after was.waiting.past (key_of c)) is after.0), after.1)

-- each card of a page is asked for
pub each_asked : (held : Card → Type 0) (w : Waiting) (limit : ℕ) (page : List Card) → IsWaitingPage held w limit page → AllByRecursion (λ c. waits w c ≡ true) page
each_asked held w limit page h = all_mapped (λ c. held c × (waits w c ≡ true)) (λ c. waits w c ≡ true) (λ c one. one.1) page h.sound

-- ---- no walk is endless
gap_most : (a : ℤ) → SFits w64 a → int_gap a (pos (2 ^ 63)) ≤ 2 ^ 64
gap_most (pos n) fits = omega arith
gap_most (negsuc n) fits = let few : n < 2 ^ 63 = fits.sfits in omega (arith, few)

below_top : (a : ℤ) → SFits w64 a → a <ℤ pos (2 ^ 63)
below_top (pos n) fits = let few : n < 2 ^ 63 = fits.sfits in grind (arith, ints, few)
below_top (negsuc n) fits = grind (arith, ints)

fewer_than_some : (past key : DueKey) → SFits w64 key.0 → SFits w64 key.1 → due_cmp past key ≡ Less → places_after (Some key) < places_after (Some past)
fewer_than_some past key due id less =
    let ids = gap_most key.1 id in
    elim (int_cmp past.0 key.0) as (λ r. int_cmp past.0 key.0 ≡ r → ordering_then r (int_cmp past.1 key.1) ≡ Less → places_after (Some key) < places_after (Some past)) [
      | Less ↦ λ is _. let falls = gap_falls past.0 key.0 (2 ^ 63) (less_than past.0 key.0 is) (below_top key.0 due) in omega (arith, falls, ids)
      | Equal ↦ λ is k.
          let same = ap (λ (d : ℤ). int_gap d (pos (2 ^ 63))) (int_cmp-IsAntisymmetric past.0 key.0 is) in
          let falls = gap_falls past.1 key.1 (2 ^ 63) (less_than past.1 key.1 k) (below_top key.1 id) in
          omega (arith, same, falls)
      | Greater ↦ λ _ k. cc
    ] refl less

pub fewer_after : (past : Option DueKey) (key : DueKey) → SFits w64 key.0 → SFits w64 key.1 → comes_after past key ≡ true → places_after (Some key) < places_after past
fewer_after None key due id h = let dues = gap_most key.0 due in let ids = gap_most key.1 id in omega (arith, dues, ids)
fewer_after (Some past) key due id h = fewer_than_some past key due id (less_from _ h)

-- ---- one card after the other
pub at_read : (walk : QueueWalk) (due id due_read id_read : ℤ) → due_read ≡ due → id_read ≡ id
    → record walk { waiting = record walk.waiting { past = Some (due_read, id_read) } } ≡ record walk { waiting = record walk.waiting { past = Some (due, id) } }
at_read walk due id due_read id_read due_is id_is = λ i. record walk { waiting = record walk.waiting { past = Some (due_is i, id_is i) } }

pub fewer_read : (past : Option DueKey) (due id due_read id_read : ℤ) → due_read ≡ due → id_read ≡ id → SFits w64 due → SFits w64 id → comes_after past (due, id) ≡ true
    → places_after (Some (due_read, id_read)) < places_after past
fewer_read past due id due_read id_read due_is id_is due_fits id_fits after =
    subst (λ (n : ℕ). n < places_after past) (λ i. places_after (Some (sym due_is i, sym id_is i))) (fewer_after past (due, id) due_fits id_fits after)

-- a card was passed, and the others of these are left
pub record IsAhead (start : Option DueKey) (cards : List Card) (past : Option DueKey) (rest : List Card) : Type 0 where
  pub ascends : AscendsAfter past rest
  pub fewer : places_after past + length cards ≤ places_after start + length rest

pub next_ahead : (start past : Option DueKey) (cards rest : List Card) (c : Card) (now : Option DueKey) → now ≡ Some (key_of c) → (comes_after past (key_of c) ≡ true → places_after now < places_after past)
    → IsAhead start cards past (c ∷ rest) → IsAhead start cards now rest
next_ahead start past cards rest c now is falls h = record {
  ascends = subst (λ (p : Option DueKey). AscendsAfter p rest) (sym is) h.ascends.1;
  fewer = let less = falls h.ascends.0 in let more = h.fewer in omega (arith, less, more);
}
