-- What was gathered of the queues is all that the day asks for.
use Rattle.std.proofs.Common.{◌≡◌, ◌≤◌, ◌⊎◌, ◌&&◌, ◌||◌, ◌+ℤ◌, ℕ, ℤ, zero, suc, pos, not, Bool, true, false, cond, int_lt, List, [], ◌∷◌, ◌++◌, length, take, filter_map, Option, Some, None, IfSome, Result, Ok, Err, IfOk, Ordering, Less, Equal, Greater, refl, sym, ap, subst, ◌∙◌, arith, inl, inr, true≢false}
use Rattle.std.proofs.lemmas.List.{take-take}
use Rattle.std.proofs.lemmas.Option.{none-some, same_Some}
use Rattle.std.specs.BTreeMap.{is_at}
use Rattle.std.specs.BTreeSet.{insert_key}
use Rattle.std.specs.Cmp.{IsTotalOrder, signed_Decides, tied_itself}
use Rattle.std.specs.FinMap.{IsAntisymmetric}
use Rattle.std.specs.List.{AllByRecursion, cons_option, list_all, list_any}
use Rattle.std.specs.List.Sorted.{IsStrictlySortedBy}
use Rattle.std.specs.Ordering.{int_eq, is_eq, match_ordering, ordering_reverse}
use Rattle.ak_base.specs.declared.cards.Card.{Card}
use Rattle.ak_keep.proofs.SortedKeys.{has_of, same_keys}
use Rattle.ak_keep.specs.Lookups.{cards_in}
use Rattle.ak_keep.specs.Marks.{WithMark}
use Rattle.ak_keep.specs.Collections.{Holding}
use Rattle.ak_keep.specs.QueueWalks.{is_to_come}
use Rattle.ak_keep.specs.WaitingCards.{IsOneOf, is_due_by, key_of}
use Rattle.ak_keep.specs.declared.keepers.KeepFault.{KeepFault}
use Rattle.ak_keep.specs.declared.queue_walks.QueueWalk.{QueueWalk}
use Rattle.ak_queue.specs.Gathering.{AddsFirstReviews, ComesAfterEnough, Gathers, GathersOver, HasAllButReviews, HasNone, IsLastLearning}
use Rattle.ak_queue.specs.Lists.{QueueView, due_key, has_come, is_day_learning, is_due_review, is_inside, is_learning, is_new, is_soon, key_under, new_key}
use Rattle.ak_queue.specs.Homes.{path_of_card}
use Rattle.ak_queue.specs.Orders.{DueKey, NewKey, due_cmp, new_cmp, put_among}
use Rattle.ak_queue.specs.declared.gathered.Gathered.{Gathered}
use Rattle.ak_queue.proofs.FirstKeys.{comes_last, same_first}
use Rattle.ak_queue.proofs.Gatherings.{all_both, both_parts, one_of_first, one_of_second}
use Rattle.ak_queue.proofs.Sorting.{all_inserted, due_exact, due_total, new_exact, new_total, order_ascends, put_sorted, put_whole}

bool_same : (a b : Bool) → (a ≡ true → b ≡ true) → (b ≡ true → a ≡ true) → a ≡ b
bool_same true b h k = sym (h refl)
bool_same false true h k = k refl
bool_same false false h k = refl

or_within : (a b : Bool) → (a ≡ true → b ≡ true) → (a || b) ≡ b
or_within true b h = sym (h refl)
or_within false b h = refl

or_onto : (a b : Bool) → (b ≡ true → a ≡ true) → (a || b) ≡ a
or_onto true b h = refl
or_onto false true h = sym (h refl)
or_onto false false h = refl

or_second : (a b : Bool) → b ≡ true → (a || b) ≡ true
or_second true b h = refl
or_second false b h = h

not_and : (a b : Bool) → not (a && b) ≡ (not a || not b)
not_and true b = refl
not_and false b = refl

and_first : (a b : Bool) → (a && b) ≡ true → a ≡ true
and_first true b h = refl
and_first false b h = h

pub and_second : (a b : Bool) → (a && b) ≡ true → b ≡ true
and_second true b h = h
and_second false b h = absurd (true≢false (sym h))

any_all : {K : Type 0} (t : K → Bool) (keys : List K) → not (list_all (λ k. not (t k)) keys) ≡ list_any t keys
any_all t [] = refl
any_all t (k ∷ keys) = elim (t k) as (λ b. not (not b && list_all (λ k. not (t k)) keys) ≡ (b || list_any t keys)) [ true ↦ refl | false ↦ any_all t keys ]

all_one : (P : Card → Type 0) (cards : List Card) (c : Card) → AllByRecursion P cards → IsOneOf cards c → P c
all_one P [] c h is = absurd is
all_one P (d ∷ cards) c h (inl same) = subst P same h.0
all_one P (d ∷ cards) c h (inr is) = all_one P cards c h.1 is

-- a card of these has a key that is tied with this one
abbrev HasKey : {K : Type 0} → (K → K → Ordering) → (Card → Option K) → K → List Card → Type 0
HasKey {K = K} cmp key q cards = (c : Card) × IsOneOf cards c × (k : K) × (key c ≡ Some k) × (is_at (cmp q) k ≡ true)

-- ---- keys put in order are told by which of them there are
module _ {K : Type 0} (cmp : K → K → Ordering) (total : IsTotalOrder cmp) (exact : IsAntisymmetric cmp) where
  has_put : (q : K) (sorted keys : List K) → has_of cmp q (put_among cmp sorted keys) ≡ (has_of cmp q sorted || has_of cmp q keys)
  has_put q sorted keys =
      let p : K → Bool = λ k. not (is_at (cmp q) k) in
      sym (any_all (is_at (cmp q)) (put_among cmp sorted keys))
      ∙ ap not (put_whole cmp exact p sorted keys)
      ∙ not_and (list_all p sorted) (list_all p keys)
      ∙ ap (λ b. b || not (list_all p keys)) (any_all (is_at (cmp q)) sorted)
      ∙ ap (λ b. has_of cmp q sorted || b) (any_all (is_at (cmp q)) keys)

  same_put : (xs ys : List K) → ((q : K) → has_of cmp q xs ≡ has_of cmp q ys) → put_among cmp [] xs ≡ put_among cmp [] ys
  same_put xs ys same =
      same_keys cmp total exact (put_among cmp [] xs) (put_among cmp [] ys) (order_ascends cmp total xs) (order_ascends cmp total ys)
      (λ q. has_put q [] xs ∙ same q ∙ sym (has_put q [] ys))

  put_onto : (xs ys : List K) → ((q : K) → has_of cmp q xs ≡ true → has_of cmp q ys ≡ true) → put_among cmp (put_among cmp [] xs) ys ≡ put_among cmp [] ys
  put_onto xs ys within =
      same_keys cmp total exact (put_among cmp (put_among cmp [] xs) ys) (put_among cmp [] ys) (put_sorted cmp total (put_among cmp [] xs) ys (order_ascends cmp total xs)) (order_ascends cmp total ys)
      (λ q. has_put q (put_among cmp [] xs) ys ∙ ap (λ b. b || has_of cmp q ys) (has_put q [] xs) ∙ or_within _ _ (within q) ∙ sym (has_put q [] ys))

  put_there : (xs ys : List K) → ((q : K) → has_of cmp q ys ≡ true → has_of cmp q xs ≡ true) → put_among cmp (put_among cmp [] xs) ys ≡ put_among cmp [] xs
  put_there xs ys within =
      same_keys cmp total exact (put_among cmp (put_among cmp [] xs) ys) (put_among cmp [] xs) (put_sorted cmp total (put_among cmp [] xs) ys (order_ascends cmp total xs)) (order_ascends cmp total xs)
      (λ q. has_put q (put_among cmp [] xs) ys ∙ ap (λ b. b || has_of cmp q ys) (has_put q [] xs) ∙ or_onto _ _ (within q) ∙ sym (has_put q [] xs))

  -- a key that is there already changes nothing, and one that comes after as many as are looked for does not change the first
  none_later : (k x : K) (xs : List K) → cmp k x ≡ Less → AllByRecursion (λ y. cmp x y ≡ Less) xs → has_of cmp k xs ≡ false
  none_later k x [] less after = refl
  none_later k x (y ∷ xs) less after = ap (λ r. is_eq r || has_of cmp k xs) (total.trans k x y less after.0) ∙ none_later k x xs less after.1

  inserted_there : (xs : List K) (k : K) → IsStrictlySortedBy cmp xs → has_of cmp k xs ≡ true → insert_key cmp xs k ≡ xs
  unfolding IsStrictlySortedBy
  inserted_there [] k sorted has = absurd (true≢false (sym has))
  inserted_there (x ∷ xs) k sorted has =
      elim (cmp k x) as (λ r. cmp k x ≡ r → (is_eq r || has_of cmp k xs) ≡ true → match_ordering r (k ∷ x ∷ xs) (x ∷ xs) (x ∷ insert_key cmp xs k) ≡ x ∷ xs) [
        | Less ↦ λ e h. absurd (true≢false (sym h ∙ none_later k x xs e sorted.0))
        | Equal ↦ λ e h. refl
        | Greater ↦ λ e h. ap (λ ks. x ∷ ks) (inserted_there xs k sorted.1 h)
      ] refl has

  -- the key is there, or comes after so many
  abbrev StaysOut : ℕ → List K → K → Type 0
  StaysOut n xs k = (has_of cmp k xs ≡ true) ⊎ ((n ≤ length xs) × AllByRecursion (λ x. cmp k x ≡ Greater) xs)

  stays : (n : ℕ) (xs keys : List K) (k : K) → IsStrictlySortedBy cmp xs → take n (put_among cmp xs keys) ≡ take n xs → StaysOut n xs k → take n (put_among cmp (insert_key cmp xs k) keys) ≡ take n xs
  stays n xs keys k sorted rest (inl there) = ap (λ ks. take n (put_among cmp ks keys)) (inserted_there xs k sorted there) ∙ rest
  stays n xs keys k sorted rest (inr after) = same_first cmp n (insert_key cmp xs k) xs keys (sym (comes_last cmp n xs k after.0 after.1)) ∙ rest

  first_stay : (n : ℕ) (xs keys : List K) → IsStrictlySortedBy cmp xs → AllByRecursion (StaysOut n xs) keys → take n (put_among cmp xs keys) ≡ take n xs
  first_stay n xs [] sorted out = refl
  first_stay n xs (k ∷ keys) sorted out = stays n xs keys k sorted (first_stay n xs keys sorted out.1) out.0

  all_put : (P : K → Type 0) (xs keys : List K) → AllByRecursion P xs → AllByRecursion P keys → AllByRecursion P (put_among cmp xs keys)
  all_put P xs [] g h = g
  all_put P xs (k ∷ keys) g h = all_put P (insert_key cmp xs k) keys (all_inserted cmp total P xs k g h.0) h.1

  -- ---- the keys of cards
  module _ (key : Card → Option K) where
    one_later : (q : K) (c : Card) (cards : List Card) → HasKey cmp key q cards → HasKey cmp key q (c ∷ cards)
    one_later q c cards has = (has.0, inr has.1, has.2, has.3, has.4)

    found_first : (q : K) (c : Card) (cards : List Card) (o : Option K) → key c ≡ o → (has_of cmp q (filter_map key cards) ≡ true → HasKey cmp key q cards)
        → has_of cmp q (cons_option o (filter_map key cards)) ≡ true → HasKey cmp key q (c ∷ cards)
    found_first q c cards None is rest has = one_later q c cards (rest has)
    found_first q c cards (Some k) is rest has =
        elim (is_at (cmp q) k) as (λ b. is_at (cmp q) k ≡ b → (b || has_of cmp q (filter_map key cards)) ≡ true → HasKey cmp key q (c ∷ cards)) [
          | true ↦ λ t _. (c, inl refl, k, is, t)
          | false ↦ λ _ h. one_later q c cards (rest h)
        ] refl has

    key_found : (q : K) (cards : List Card) → has_of cmp q (filter_map key cards) ≡ true → HasKey cmp key q cards
    key_found q [] has = absurd (true≢false (sym has))
    key_found q (c ∷ cards) has = found_first q c cards (key c) refl (key_found q cards) has

    more_keys : (q : K) (o : Option K) (keys : List K) → has_of cmp q keys ≡ true → has_of cmp q (cons_option o keys) ≡ true
    more_keys q None keys has = has
    more_keys q (Some k) keys has = or_second (is_at (cmp q) k) (has_of cmp q keys) has

    has_key : (q : K) (cards : List Card) (c : Card) (k : K) → IsOneOf cards c → key c ≡ Some k → is_at (cmp q) k ≡ true → has_of cmp q (filter_map key cards) ≡ true
    has_key q [] c k inside is tied = absurd inside
    has_key q (d ∷ cards) c k (inl same) is tied =
        subst (λ (o : Option K). has_of cmp q (cons_option o (filter_map key cards)) ≡ true) (sym (ap key same ∙ is)) (ap (λ b. b || has_of cmp q (filter_map key cards)) tied)
    has_key q (d ∷ cards) c k (inr inside) is tied = more_keys q (key d) (filter_map key cards) (has_key q cards c k inside is tied)

    keys_within : (xs ys : List Card) → AllByRecursion (IsOneOf ys) xs → (q : K) → has_of cmp q (filter_map key xs) ≡ true → has_of cmp q (filter_map key ys) ≡ true
    keys_within xs ys sound q has =
        let found = key_found q xs has in
        has_key q ys found.0 found.2 (all_one (IsOneOf ys) xs found.0 sound found.1) found.3 found.4

    -- cards among which are all with a key have all keys
    full_keys : (xs ys : List Card) → AllByRecursion (IsOneOf ys) xs → ((c : Card) (k : K) → IsOneOf ys c → key c ≡ Some k → IsOneOf xs c) → put_among cmp [] (filter_map key xs) ≡ put_among cmp [] (filter_map key ys)
    full_keys xs ys sound whole = same_put (filter_map key xs) (filter_map key ys) (λ q. bool_same _ _ (keys_within xs ys sound q)
        (λ has. let found = key_found q ys has in has_key q xs found.0 found.2 (whole found.0 found.2 found.1 found.3) found.3 found.4))

    -- keys of cards that are there already
    keys_there : (xs ys : List Card) → AllByRecursion (IsOneOf xs) ys → put_among cmp (put_among cmp [] (filter_map key xs)) (filter_map key ys) ≡ put_among cmp [] (filter_map key xs)
    keys_there xs ys sound = put_there (filter_map key xs) (filter_map key ys) (keys_within ys xs sound)

    with_key : (P : K → Type 0) (c : Card) (keys : List K) (o : Option K) → key c ≡ o → ((k : K) → key c ≡ Some k → P k) → AllByRecursion P keys → AllByRecursion P (cons_option o keys)
    with_key P c keys None is h rest = rest
    with_key P c keys (Some k) is h rest = (h k is, rest)

    each_key : (P : K → Type 0) (cards : List Card) → ((c : Card) (k : K) → IsOneOf cards c → key c ≡ Some k → P k) → AllByRecursion P (filter_map key cards)
    each_key P [] h = tt
    each_key P (c ∷ cards) h = with_key P c (filter_map key cards) (key c) refl (λ k is. h c k (inl refl) is) (each_key P cards (λ d k inside. h d k (inr inside)))

    -- the first keys of cards without those that come after as many as are looked for
    first_keys : (n : ℕ) (xs ys : List Card) → AllByRecursion (IsOneOf ys) xs → ((c : Card) (k : K) → IsOneOf ys c → key c ≡ Some k → StaysOut n (put_among cmp [] (filter_map key xs)) k)
        → take n (put_among cmp [] (filter_map key xs)) ≡ take n (put_among cmp [] (filter_map key ys))
    first_keys n xs ys sound out =
        let made = put_among cmp [] (filter_map key xs) in
        sym (first_stay n made (filter_map key ys) (order_ascends cmp total (filter_map key xs)) (each_key (StaysOut n made) ys out))
        ∙ ap (take n) (put_onto (filter_map key xs) (filter_map key ys) (keys_within xs ys sound))

taken_length : {X : Type 0} (n : ℕ) (xs : List X) → n ≤ length xs → length (take n xs) ≡ n
taken_length zero xs h = refl
taken_length (suc n) [] h = absurd (omega (arith, h))
taken_length (suc n) (x ∷ xs) h = ap suc (taken_length n xs (omega (arith, h)))

taken_short : {X : Type 0} (n : ℕ) (xs : List X) → length (take n xs) ≤ length xs
taken_short zero xs = omega arith
taken_short (suc n) [] = omega arith
taken_short (suc n) (x ∷ xs) = let rest = taken_short n xs in omega (arith, rest)

as_long : {X : Type 0} (n : ℕ) (xs ys : List X) → take n xs ≡ take n ys → n ≤ length xs → n ≤ length ys
as_long n xs ys same long = let whole = taken_length n xs long in let equal = ap length same in let short = taken_short n ys in omega (arith, whole, equal, short)

-- ---- the queues
-- a walk over a queue
abbrev pub walk_over : ℤ → Option ℤ → QueueWalk
walk_over queue last = record { waiting = record { queue = queue; past = None; last = last }; done = false }

over_it : (queue : ℤ) (last : Option ℤ) (c : Card) → int_eq c.queue queue ≡ true → is_due_by last c.due ≡ true → is_to_come (walk_over queue last) c ≡ true
over_it queue last c of_queue by = ap (λ b. b && (is_due_by last c.due && true)) of_queue ∙ ap (λ b. b && true) by

of_queue_it : (queue : ℤ) (last : Option ℤ) (c : Card) → is_to_come (walk_over queue last) c ≡ true → c.queue ≡ queue
of_queue_it queue last c is = (signed_Decides c.queue queue).0 (and_first (int_eq c.queue queue) (is_due_by last c.due && true) is)

-- of a queue without reviews all were passed
all_passed : (s : QueueView) (held : Card → Type 0) (queue : ℤ) (last : Option ℤ) (a b : Gathered) → int_eq queue (pos 2) ≡ false → (g : GathersOver s held (walk_over queue last) a b)
    → (c : Card) → held c → int_eq c.queue queue ≡ true → is_due_by last c.due ≡ true → IsOneOf g.passed c
all_passed s held queue last a b other g c one of_queue by = inside (g.whole c one (over_it queue last c of_queue by))
  where
    inside : IsOneOf g.passed c ⊎ ComesAfterEnough (walk_over queue last) b g.passed c → IsOneOf g.passed c
    inside (inl is) = is
    inside (inr after) = absurd (true≢false (sym ((signed_Decides queue (pos 2)).1 after.queue) ∙ other))

held_each : (held : Card → Type 0) (over : QueueWalk) (cards : List Card) → AllByRecursion (λ c. held c × (is_to_come over c ≡ true)) cards → AllByRecursion held cards
held_each held over [] sound = tt
held_each held over (c ∷ cards) sound = (sound.0.0, held_each held over cards sound.1)

no_reviews : (held : Card → Type 0) (queue : ℤ) (last : Option ℤ) (cards : List Card) → int_eq queue (pos 2) ≡ false → AllByRecursion (λ c. held c × (is_to_come (walk_over queue last) c ≡ true)) cards
    → AllByRecursion (λ c. int_eq c.queue (pos 2) ≡ true → ⊥) cards
no_reviews held queue last [] other sound = tt
no_reviews held queue last (c ∷ cards) other sound = (
  λ is. true≢false (sym is ∙ ap (λ (q : ℤ). int_eq q (pos 2)) (of_queue_it queue last c sound.0.1) ∙ other),
  no_reviews held queue last cards other sound.1,
)

-- the key of a card tells that it passes
due_some : (test : QueueView → Card → Bool) (s : QueueView) (c : Card) (k : DueKey) → due_key test s c ≡ Some k → (test s c ≡ true) × (key_of c ≡ k)
due_some test s c k is =
    elim (is_inside s c && test s c) as (λ b. (is_inside s c && test s c) ≡ b → cond b (Some (key_of c)) None ≡ Some k → (test s c ≡ true) × (key_of c ≡ k)) [
      | true ↦ λ t e. (and_second _ _ t, same_Some (key_of c) k e)
      | false ↦ λ _ e. absurd (none-some k e)
    ] refl is

new_some : (s : QueueView) (c : Card) (k : NewKey) → new_key s c ≡ Some k → is_new s c ≡ true
new_some s c k is =
    elim (is_new s c) as (λ b. cond b (key_under s.root c (path_of_card s.path_of_deck c)) None ≡ Some k → b ≡ true) [
      | true ↦ λ _. refl
      | false ↦ λ e. absurd (none-some k e)
    ] is

-- no card of another queue waits among the reviews
no_key : (s : QueueView) (c : Card) → (int_eq c.queue (pos 2) ≡ true → ⊥) → due_key is_due_review s c ≡ None
no_key s c other =
    elim (is_inside s c && is_due_review s c) as (λ b. (is_inside s c && is_due_review s c) ≡ b → cond b (Some (key_of c)) None ≡ None) [
      | true ↦ λ t. absurd (other (and_first (int_eq c.queue (pos 2)) (has_come s c.due) (and_second (is_inside s c) (is_due_review s c) t)))
      | false ↦ λ _. refl
    ] refl

no_keys : (s : QueueView) (cards : List Card) → AllByRecursion (λ c. int_eq c.queue (pos 2) ≡ true → ⊥) cards → filter_map (due_key is_due_review s) cards ≡ []
no_keys s [] other = refl
no_keys s (c ∷ cards) other = ap (λ o. cons_option o (filter_map (due_key is_due_review s) cards)) (no_key s c other.0) ∙ no_keys s cards other.1

-- ---- all but the reviews
-- the cards of the three walks
abbrev joined : List Card → List Card → List Card → List Card
joined learned over_days fresh = learned ++ (over_days ++ fresh)

gathered_but_reviews : (s : QueueView) (cards : List Card) (most : ℕ) (last : Option ℤ) (a b c d : Gathered) → HasNone most a → IsLastLearning s last
    → GathersOver s (IsOneOf cards) (walk_over (pos 1) last) a b → GathersOver s (IsOneOf cards) (walk_over (pos 3) (Some s.day.number)) b c
    → GathersOver s (IsOneOf cards) (walk_over (pos 0) None) c d → HasAllButReviews s cards d
gathered_but_reviews s cards most last a b c d none learned g1 g3 g0 =
    record {
      learning = whole.learning ∙ ap (λ ks. put_among due_cmp ks (filter_map (due_key is_learning s) (joined g1.passed g3.passed g0.passed))) none.learning
          ∙ full_keys due_cmp due_total due_exact (due_key is_learning s) (joined g1.passed g3.passed g0.passed) cards sound (λ x k one is.
          let passes = (due_some is_learning s x k is).0 in
          in_first x (all_passed s (IsOneOf cards) (pos 1) last a b refl g1 x one (and_first (int_eq x.queue (pos 1)) (int_lt x.due s.day.now) passes) (learned.now x.due (and_second (int_eq x.queue (pos 1)) (int_lt x.due s.day.now) passes))));
      soon = whole.soon ∙ ap (λ ks. put_among due_cmp ks (filter_map (due_key is_soon s) (joined g1.passed g3.passed g0.passed))) none.soon
          ∙ full_keys due_cmp due_total due_exact (due_key is_soon s) (joined g1.passed g3.passed g0.passed) cards sound (λ x k one is.
          let passes = (due_some is_soon s x k is).0 in
          in_first x (all_passed s (IsOneOf cards) (pos 1) last a b refl g1 x one (and_first (int_eq x.queue (pos 1)) (not (int_lt x.due s.day.now) && int_lt x.due (s.day.now +ℤ s.collapse)) passes) (learned.soon x.due (and_second (not (int_lt x.due s.day.now)) (int_lt x.due (s.day.now +ℤ s.collapse))
          (and_second (int_eq x.queue (pos 1)) (not (int_lt x.due s.day.now) && int_lt x.due (s.day.now +ℤ s.collapse)) passes)))));
      day_learning = whole.day_learning ∙ ap (λ ks. put_among due_cmp ks (filter_map (due_key is_day_learning s) (joined g1.passed g3.passed g0.passed))) none.day_learning
          ∙ full_keys due_cmp due_total due_exact (due_key is_day_learning s) (joined g1.passed g3.passed g0.passed) cards sound (λ x k one is.
          let passes = (due_some is_day_learning s x k is).0 in
          in_second x (all_passed s (IsOneOf cards) (pos 3) (Some s.day.number) b c refl g3 x one (and_first (int_eq x.queue (pos 3)) (has_come s x.due) passes) (and_second (int_eq x.queue (pos 3)) (has_come s x.due) passes)));
      reviews = subst (λ (n : ℕ). take n d.reviews.keys ≡ take n []) (sym whole.most) none_made;
      new_cards = whole.new_cards ∙ ap (λ ks. put_among new_cmp ks (filter_map (new_key s) (joined g1.passed g3.passed g0.passed))) none.new_cards
          ∙ full_keys new_cmp new_total new_exact (new_key s) (joined g1.passed g3.passed g0.passed) cards sound (λ x k one is.
          in_third x (all_passed s (IsOneOf cards) (pos 0) None c d refl g0 x one (new_some s x k is) refl));
    }
  where
    whole : Gathers s (joined g1.passed g3.passed g0.passed) a d
    whole = both_parts s g1.passed (g3.passed ++ g0.passed) a b d g1.gathered (both_parts s g3.passed g0.passed b c d g3.gathered g0.gathered)

    sound : AllByRecursion (IsOneOf cards) (joined g1.passed g3.passed g0.passed)
    sound =
        all_both (IsOneOf cards) g1.passed (g3.passed ++ g0.passed) (held_each (IsOneOf cards) (walk_over (pos 1) last) g1.passed g1.sound)
        (all_both (IsOneOf cards) g3.passed g0.passed (held_each (IsOneOf cards) (walk_over (pos 3) (Some s.day.number)) g3.passed g3.sound) (held_each (IsOneOf cards) (walk_over (pos 0) None) g0.passed g0.sound))

    in_first : (x : Card) → IsOneOf g1.passed x → IsOneOf (joined g1.passed g3.passed g0.passed) x
    in_first x is = one_of_first g1.passed (g3.passed ++ g0.passed) x is

    in_second : (x : Card) → IsOneOf g3.passed x → IsOneOf (joined g1.passed g3.passed g0.passed) x
    in_second x is = one_of_second g1.passed (g3.passed ++ g0.passed) x (one_of_first g3.passed g0.passed x is)

    in_third : (x : Card) → IsOneOf g0.passed x → IsOneOf (joined g1.passed g3.passed g0.passed) x
    in_third x is = one_of_second g1.passed (g3.passed ++ g0.passed) x (one_of_second g3.passed g0.passed x is)

    other : AllByRecursion (λ x. int_eq x.queue (pos 2) ≡ true → ⊥) (joined g1.passed g3.passed g0.passed)
    other =
        all_both (λ x. int_eq x.queue (pos 2) ≡ true → ⊥) g1.passed (g3.passed ++ g0.passed) (no_reviews (IsOneOf cards) (pos 1) last g1.passed refl g1.sound)
        (all_both (λ x. int_eq x.queue (pos 2) ≡ true → ⊥) g3.passed g0.passed (no_reviews (IsOneOf cards) (pos 3) (Some s.day.number) g3.passed refl g3.sound) (no_reviews (IsOneOf cards) (pos 0) None g0.passed refl g0.sound))

    none_made : take a.most d.reviews.keys ≡ take a.most []
    none_made = whole.reviews ∙ ap (take a.most) (λ i. put_among due_cmp (none.reviews i) (no_keys s (joined g1.passed g3.passed g0.passed) other i))

-- the same where fewer reviews are looked for
pub fewer_needed : (s : QueueView) (cards : List Card) (g : Gathered) (n : ℕ) → n ≤ g.most → HasAllButReviews s cards g → HasAllButReviews s cards (record g { most = n })
fewer_needed s cards g n fewer has = record {
  learning = has.learning;
  soon = has.soon;
  day_learning = has.day_learning;
  reviews = sym (take-take n g.most g.reviews.keys fewer) ∙ ap (take n) has.reviews ∙ take-take n g.most [] fewer;
  new_cards = has.new_cards;
}

-- ---- and the reviews
-- where the reviews among some cards wait
abbrev reviews_of : QueueView → List Card → List DueKey
reviews_of s cards = put_among due_cmp [] (filter_map (due_key is_due_review s) cards)

with_reviews : (s : QueueView) (cards : List Card) (d e : Gathered) → GathersOver s (IsOneOf cards) (walk_over (pos 2) (Some s.day.number)) d e → AddsFirstReviews s cards d e
with_reviews s cards d e g has =
    record {
      learning = g.gathered.learning ∙ ap (λ ks. put_among due_cmp ks (filter_map (due_key is_learning s) g.passed)) has.learning ∙ keys_there due_cmp due_total due_exact (due_key is_learning s) cards g.passed sound;
      soon = g.gathered.soon ∙ ap (λ ks. put_among due_cmp ks (filter_map (due_key is_soon s) g.passed)) has.soon ∙ keys_there due_cmp due_total due_exact (due_key is_soon s) cards g.passed sound;
      day_learning = g.gathered.day_learning ∙ ap (λ ks. put_among due_cmp ks (filter_map (due_key is_day_learning s) g.passed)) has.day_learning ∙ keys_there due_cmp due_total due_exact (due_key is_day_learning s) cards g.passed sound;
      reviews = subst (λ (n : ℕ). take n e.reviews.keys ≡ take n (reviews_of s cards)) (sym g.gathered.most)
          (reviews_made ∙ first_keys due_cmp due_total due_exact (due_key is_due_review s) d.most g.passed cards sound out);
      new_cards = g.gathered.new_cards ∙ ap (λ ks. put_among new_cmp ks (filter_map (new_key s) g.passed)) has.new_cards ∙ keys_there new_cmp new_total new_exact (new_key s) cards g.passed sound;
    }
  where
    sound : AllByRecursion (IsOneOf cards) g.passed
    sound = held_each (IsOneOf cards) (walk_over (pos 2) (Some s.day.number)) g.passed g.sound

    reviews_made : take d.most e.reviews.keys ≡ take d.most (reviews_of s g.passed)
    reviews_made = g.gathered.reviews ∙ same_first due_cmp d.most d.reviews.keys [] (filter_map (due_key is_due_review s) g.passed) has.reviews

    later : (x : Card) → AllByRecursion (λ y. due_cmp (key_of y) (key_of x) ≡ Less) g.passed → AllByRecursion (λ key. due_cmp (key_of x) key ≡ Greater) (reviews_of s g.passed)
    later x after =
        let P = λ (key : DueKey). due_cmp (key_of x) key ≡ Greater in
        all_put due_cmp due_total due_exact P [] (filter_map (due_key is_due_review s) g.passed) tt
        (each_key due_cmp due_total due_exact (due_key is_due_review s) P g.passed (λ y k inside is.
        let less = all_one (λ z. due_cmp (key_of z) (key_of x) ≡ Less) g.passed y after inside in
        subst P (due_some is_due_review s y k is).1 (due_total.antisymm (key_of x) (key_of y) ∙ ap ordering_reverse less)))

    out : (x : Card) (k : DueKey) → IsOneOf cards x → due_key is_due_review s x ≡ Some k
        → (has_of due_cmp k (reviews_of s g.passed) ≡ true) ⊎ ((d.most ≤ length (reviews_of s g.passed)) × AllByRecursion (λ key. due_cmp k key ≡ Greater) (reviews_of s g.passed))
    out x k one is = either (g.whole x one (over_it (pos 2) (Some s.day.number) x (and_first (int_eq x.queue (pos 2)) (has_come s x.due) some.0) (and_second (int_eq x.queue (pos 2)) (has_come s x.due) some.0)))
      where
        some : (is_due_review s x ≡ true) × (key_of x ≡ k)
        some = due_some is_due_review s x k is

        either : IsOneOf g.passed x ⊎ ComesAfterEnough (walk_over (pos 2) (Some s.day.number)) e g.passed x
            → (has_of due_cmp k (reviews_of s g.passed) ≡ true) ⊎ ((d.most ≤ length (reviews_of s g.passed)) × AllByRecursion (λ key. due_cmp k key ≡ Greater) (reviews_of s g.passed))
        either (inl inside) = inl (has_put due_cmp due_total due_exact k [] (filter_map (due_key is_due_review s) g.passed)
            ∙ has_key due_cmp due_total due_exact (due_key is_due_review s) k g.passed x k inside is (ap is_eq (tied_itself due_total k)))
        either (inr enough) = inr (
          as_long d.most e.reviews.keys (reviews_of s g.passed) reviews_made (subst (λ (n : ℕ). n ≤ length e.reviews.keys) g.gathered.most enough.most),
          subst (λ (key : DueKey). AllByRecursion (λ other. due_cmp key other ≡ Greater) (reviews_of s g.passed)) some.1 (later x enough.after),
        )

-- ---- the same where it is told what is held, and the day as it was read
pub but_reviews_told : (told : Option (WithMark Holding)) (s : QueueView) (most : ℕ) (last : Option ℤ) (today : ℤ) (a b c d : Gathered) → today ≡ s.day.number → HasNone most a → IsLastLearning s last
    → IfSome told (λ w. GathersOver s (IsOneOf (cards_in w.current.rows)) (walk_over (pos 1) last) a b)
    → IfSome told (λ w. GathersOver s (IsOneOf (cards_in w.current.rows)) (walk_over (pos 3) (Some today)) b c)
    → IfSome told (λ w. GathersOver s (IsOneOf (cards_in w.current.rows)) (walk_over (pos 0) None) c d) → IfSome told (λ w. HasAllButReviews s (cards_in w.current.rows) d)
but_reviews_told None s most last today a b c d read none learned g1 g3 g0 = tt
but_reviews_told (Some w) s most last today a b c d read none learned g1 g3 g0 =
    let of_day : ℤ → Type 0 = λ day. GathersOver s (IsOneOf (cards_in w.current.rows)) (walk_over (pos 3) (Some day)) b c in
    gathered_but_reviews s (cards_in w.current.rows) most last a b c d none learned g1 (subst of_day read g3) g0

pub with_reviews_told : (told : Option (WithMark Holding)) (result : Result Unit KeepFault) (s : QueueView) (today : ℤ) (d e : Gathered) → today ≡ s.day.number
    → IfOk result (λ _. IfSome told (λ w. GathersOver s (IsOneOf (cards_in w.current.rows)) (walk_over (pos 2) (Some today)) d e)) → IfOk result (λ _. IfSome told (λ w. AddsFirstReviews s (cards_in w.current.rows) d e))
with_reviews_told told (Err fault) s today d e read g = tt
with_reviews_told None (Ok done) s today d e read g = tt
with_reviews_told (Some w) (Ok done) s today d e read g =
    let of_day : ℤ → Type 0 = λ day. GathersOver s (IsOneOf (cards_in w.current.rows)) (walk_over (pos 2) (Some day)) d e in
    with_reviews s (cards_in w.current.rows) d e (subst of_day read g)
