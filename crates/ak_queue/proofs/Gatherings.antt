-- What is gathered of the cards that wait, a page of them after another.
use Rattle.std.proofs.Common.{◌≡◌, ◌≤◌, ◌⊎◌, ◌&&◌, ℕ, pos, not, true, false, List, [], ◌∷◌, ◌++◌, length, take, filter_map, Option, Some, None, IfSome, Ordering, Less, refl, sym, ap, subst, ◌∙◌, inl, inr, true≢false}
use Rattle.std.proofs.lemmas.List.Elements.{filter_map-append}
use Rattle.std.specs.BTreeSet.{insert_key}
use Rattle.std.specs.List.{AllByRecursion}
use Rattle.ak_base.specs.declared.cards.Card.{Card}
use Rattle.ak_keep.specs.Collections.{Holding}
use Rattle.ak_keep.specs.Lookups.{cards_in}
use Rattle.ak_keep.specs.Marks.{WithMark}
use Rattle.ak_keep.proofs.WaitingCards.{IsNextPage, next_page}
use Rattle.ak_keep.specs.QueueWalks.{is_to_come, passed}
use Rattle.ak_keep.specs.WaitingCards.{IsOneOf, IsWaitingPage, key_of, waits}
use Rattle.ak_keep.specs.declared.queue_walks.QueueWalk.{QueueWalk}
use Rattle.ak_queue.specs.Gathering.{ComesAfterEnough, Gathers, GathersOver}
use Rattle.ak_queue.specs.Lists.{QueueView, due_key, new_key, is_learning, is_soon, is_day_learning, is_due_review}
use Rattle.ak_queue.specs.Orders.{put_among, due_cmp, new_cmp}
use Rattle.ak_queue.specs.declared.gathered.Gathered.{Gathered}
use Rattle.ak_queue.proofs.FirstKeys.{same_first}

pub put_among-append : {K : Type 0} (cmp : K → K → Ordering) (sorted xs ys : List K) → put_among cmp sorted (xs ++ ys) ≡ put_among cmp (put_among cmp sorted xs) ys
put_among-append cmp sorted [] ys = refl
put_among-append cmp sorted (x ∷ xs) ys = put_among-append cmp (insert_key cmp sorted x) xs ys

-- the keys of two parts, one after the other
two_parts : {K : Type 0} (cmp : K → K → Ordering) (key : Card → Option K) (a b c : List K) (xs ys : List Card) → b ≡ put_among cmp a (filter_map key xs) → c ≡ put_among cmp b (filter_map key ys)
    → c ≡ put_among cmp a (filter_map key (xs ++ ys))
two_parts cmp key a b c xs ys first then =
    then ∙ ap (λ ks. put_among cmp ks (filter_map key ys)) first
    ∙ sym (put_among-append cmp a (filter_map key xs) (filter_map key ys))
    ∙ ap (put_among cmp a) (sym (filter_map-append key xs ys))

-- and the first of them
first_of_two : {K : Type 0} (n : ℕ) (cmp : K → K → Ordering) (key : Card → Option K) (a b c : List K) (xs ys : List Card) → take n b ≡ take n (put_among cmp a (filter_map key xs))
    → take n c ≡ take n (put_among cmp b (filter_map key ys)) → take n c ≡ take n (put_among cmp a (filter_map key (xs ++ ys)))
first_of_two n cmp key a b c xs ys first then =
    then ∙ same_first cmp n b (put_among cmp a (filter_map key xs)) (filter_map key ys) first
    ∙ ap (take n) (sym (put_among-append cmp a (filter_map key xs) (filter_map key ys)) ∙ ap (put_among cmp a) (sym (filter_map-append key xs ys)))

-- one part of the cards after another
pub both_parts : (s : QueueView) (xs ys : List Card) (a b c : Gathered) → Gathers s xs a b → Gathers s ys b c → Gathers s (xs ++ ys) a c
both_parts s xs ys a b c first then = record {
  most = then.most ∙ first.most;
  learning = two_parts due_cmp (due_key is_learning s) a.learning.keys b.learning.keys c.learning.keys xs ys first.learning then.learning;
  soon = two_parts due_cmp (due_key is_soon s) a.soon.keys b.soon.keys c.soon.keys xs ys first.soon then.soon;
  day_learning = two_parts due_cmp (due_key is_day_learning s) a.day_learning.keys b.day_learning.keys c.day_learning.keys xs ys first.day_learning then.day_learning;
  reviews = first_of_two a.most due_cmp (due_key is_due_review s) a.reviews.keys b.reviews.keys c.reviews.keys xs ys first.reviews
      (subst (λ (n : ℕ). take n c.reviews.keys ≡ take n (put_among due_cmp b.reviews.keys (filter_map (due_key is_due_review s) ys))) first.most then.reviews);
  new_cards = two_parts new_cmp (new_key s) a.new_cards.keys b.new_cards.keys c.new_cards.keys xs ys first.new_cards then.new_cards;
}

-- no cards
pub no_part : (s : QueueView) (a : Gathered) → Gathers s [] a a
no_part s a = record { most = refl; learning = refl; soon = refl; day_learning = refl; reviews = refl; new_cards = refl }

-- ---- pages of a walk
-- some cards of a walk were gathered, and those that are to come come after them
pub record PassedSoFar (s : QueueView) (held : Card → Type 0) (over walk : QueueWalk) (old new : Gathered) : Type 0 where
  pub passed : List Card
  pub gathered : Gathers s passed old new
  pub sound : AllByRecursion (λ c. held c × (is_to_come over c ≡ true)) passed
  pub whole : (c : Card) → held c → is_to_come over c ≡ true → IsOneOf passed c ⊎ (is_to_come walk c ≡ true)
  pub later : (c : Card) → is_to_come walk c ≡ true → (is_to_come over c ≡ true) × AllByRecursion (λ d. due_cmp (key_of d) (key_of c) ≡ Less) passed

pub all_both : (P : Card → Type 0) (xs ys : List Card) → AllByRecursion P xs → AllByRecursion P ys → AllByRecursion P (xs ++ ys)
all_both P [] ys g h = h
all_both P (x ∷ xs) ys g h = (g.0, all_both P xs ys g.1 h)

pub one_of_first : (xs ys : List Card) (c : Card) → IsOneOf xs c → IsOneOf (xs ++ ys) c
one_of_first [] ys c is = absurd is
one_of_first (x ∷ xs) ys c (inl same) = inl same
one_of_first (x ∷ xs) ys c (inr is) = inr (one_of_first xs ys c is)

pub one_of_second : (xs ys : List Card) (c : Card) → IsOneOf ys c → IsOneOf (xs ++ ys) c
one_of_second [] ys c is = is
one_of_second (x ∷ xs) ys c is = inr (one_of_second xs ys c is)

none_passed : (s : QueueView) (held : Card → Type 0) (over : QueueWalk) (a : Gathered) → PassedSoFar s held over over a a
none_passed s held over a = record { passed = []; gathered = no_part s a; sound = tt; whole = λ c one is. inr is; later = λ c is. (is, tt) }

sound_before : (held : Card → Type 0) (over walk : QueueWalk) (page : List Card) → ((c : Card) → is_to_come walk c ≡ true → is_to_come over c ≡ true) → AllByRecursion (λ c. held c × (is_to_come walk c ≡ true)) page
    → AllByRecursion (λ c. held c × (is_to_come over c ≡ true)) page
sound_before held over walk [] back sound = tt
sound_before held over walk (c ∷ page) back sound = ((sound.0.0, back c sound.0.1), sound_before held over walk page back sound.1)

page_passed : (s : QueueView) (held : Card → Type 0) (over walk next : QueueWalk) (a b c : Gathered) (page : List Card) → PassedSoFar s held over walk a b → IsNextPage held walk next page → Gathers s page b c
    → PassedSoFar s held over next a c
page_passed s held over walk next a b c page so_far is step = record {
  passed = so_far.passed ++ page;
  gathered = both_parts s so_far.passed page a b c so_far.gathered step;
  sound = all_both (λ d. held d × (is_to_come over d ≡ true)) so_far.passed page so_far.sound (sound_before held over walk page (λ d ahead. (so_far.later d ahead).0) is.sound);
  whole = λ d one ahead. once d one (so_far.whole d one ahead);
  later = λ d ahead.
      let here = is.later d ahead in
      let before = so_far.later d here.0 in
      (before.0, all_both (λ e. due_cmp (key_of e) (key_of d) ≡ Less) so_far.passed page before.1 here.1);
}
  where
    then : (d : Card) → IsOneOf page d ⊎ (is_to_come next d ≡ true) → IsOneOf (so_far.passed ++ page) d ⊎ (is_to_come next d ≡ true)
    then d (inl inside) = inl (one_of_second so_far.passed page d inside)
    then d (inr ahead) = inr ahead

    once : (d : Card) → held d → IsOneOf so_far.passed d ⊎ (is_to_come walk d ≡ true) → IsOneOf (so_far.passed ++ page) d ⊎ (is_to_come next d ≡ true)
    once d one (inl inside) = inl (one_of_first so_far.passed page d inside)
    once d one (inr ahead) = then d (is.whole d one ahead)

over_all : (s : QueueView) (held : Card → Type 0) (over walk : QueueWalk) (a b : Gathered) → walk.done ≡ true → PassedSoFar s held over walk a b → GathersOver s held over a b
over_all s held over walk a b done so_far = record {
  passed = so_far.passed;
  gathered = so_far.gathered;
  sound = so_far.sound;
  whole = λ c one ahead. inside c (so_far.whole c one ahead);
}
  where
    inside : (c : Card) → IsOneOf so_far.passed c ⊎ (is_to_come walk c ≡ true) → IsOneOf so_far.passed c ⊎ ComesAfterEnough over b so_far.passed c
    inside c (inl is) = inl is
    inside c (inr ahead) = absurd (true≢false (sym ahead ∙ ap (λ d. not d && waits walk.waiting c) done))

over_enough : (s : QueueView) (held : Card → Type 0) (over walk : QueueWalk) (a b : Gathered) → over.waiting.queue ≡ pos 2 → b.most ≤ length b.reviews.keys → PassedSoFar s held over walk a b → GathersOver s held over a b
over_enough s held over walk a b queue most so_far = record {
  passed = so_far.passed;
  gathered = so_far.gathered;
  sound = so_far.sound;
  whole = λ c one ahead. inside c (so_far.whole c one ahead);
}
  where
    inside : (c : Card) → IsOneOf so_far.passed c ⊎ (is_to_come walk c ≡ true) → IsOneOf so_far.passed c ⊎ ComesAfterEnough over b so_far.passed c
    inside c (inl is) = inl is
    inside c (inr ahead) = inr (record { queue = queue; most = most; after = (so_far.later c ahead).1 })

-- the same where it is told what is held
abbrev Told : Option (WithMark Holding) → ((Card → Type 0) → Type 0) → Type 0
Told told P = IfSome told (λ w. P (IsOneOf (cards_in w.current.rows)))

pub first_told : (told : Option (WithMark Holding)) (s : QueueView) (over : QueueWalk) (a : Gathered) → Told told (λ held. PassedSoFar s held over over a a)
first_told None s over a = tt
first_told (Some w) s over a = none_passed s (IsOneOf (cards_in w.current.rows)) over a

pub next_told : (told : Option (WithMark Holding)) (s : QueueView) (over walk next : QueueWalk) (a b c : Gathered) (page : List Card) → Told told (λ held. PassedSoFar s held over walk a b) → Told told (λ held. IsNextPage held walk next page)
    → Gathers s page b c → Told told (λ held. PassedSoFar s held over next a c)
next_told None s over walk next a b c page so_far is step = tt
next_told (Some w) s over walk next a b c page so_far is step = page_passed s (IsOneOf (cards_in w.current.rows)) over walk next a b c page so_far is step

-- the page that a walk gives, as what is to come before and after it
pub page_told : (told : Option (WithMark Holding)) (walk next : QueueWalk) (limit : ℕ) (page : List Card) → walk.done ≡ false → next ≡ passed limit page walk → Told told (λ held. IsWaitingPage held walk.waiting limit page)
    → Told told (λ held. IsNextPage held walk next page)
page_told None walk next limit page going is one = tt
page_told (Some w) walk next limit page going is one =
    let held = IsOneOf (cards_in w.current.rows) in
    subst (λ (now : QueueWalk). IsNextPage held walk now page) (sym is) (next_page held walk limit page going one)

pub all_told : (told : Option (WithMark Holding)) (s : QueueView) (over walk : QueueWalk) (a b : Gathered) → walk.done ≡ true → Told told (λ held. PassedSoFar s held over walk a b) → Told told (λ held. GathersOver s held over a b)
all_told None s over walk a b done so_far = tt
all_told (Some w) s over walk a b done so_far = over_all s (IsOneOf (cards_in w.current.rows)) over walk a b done so_far

pub enough_told : (told : Option (WithMark Holding)) (s : QueueView) (over walk : QueueWalk) (a b : Gathered) → over.waiting.queue ≡ pos 2 → b.most ≤ length b.reviews.keys → Told told (λ held. PassedSoFar s held over walk a b)
    → Told told (λ held. GathersOver s held over a b)
enough_told None s over walk a b queue most so_far = tt
enough_told (Some w) s over walk a b queue most so_far = over_enough s (IsOneOf (cards_in w.current.rows)) over walk a b queue most so_far
