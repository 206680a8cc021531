-- The cards that wait in a queue, read from their keys.
use Rattle.std.specs.Prelude.{◌≡◌, ◌⊎◌, ℕ, zero, suc, ℤ, ◌-◌, ◌<◌, ◌≤◌, Bool, true, false, T, cond, not, ◌&&◌, ◌||◌, int_lt, Option, Some, None, List, [], ◌∷◌, ◌++◌, filter, length, take}
use Rattle.std.proofs.Common.{refl, sym, ap, subst, ◌∙◌, arith, inl, inr, append_assoc, append-nil, length-append}
use Rattle.std.specs.BTreeMap.Range.{range_contains}
use Rattle.std.specs.Cmp.{int_cmp_total, signed_Decides, tied_itself}
use Rattle.std.specs.FinMap.{get, int_cmp-IsAntisymmetric}
use Rattle.std.specs.List.{AllByRecursion}
use Rattle.std.specs.List.Sorted.{IsStrictlySortedBy}
use Rattle.std.specs.Option.{option_and_then, option_cmp, option_map, option_to_list}
use Rattle.std.specs.Ordering.{int_cmp, int_eq, is_eq, is_gt, is_lt, ordering_then}
use Rattle.std.specs.declared.cmp.Ordering.{Ordering}
use Rattle.std.specs.declared.cmp.Ordering.TheVariants.{Less, Equal, Greater}
use Rattle.std.specs.declared.ops.Bound.TheVariants.{Excluded, Unbounded}
use Rattle.std.proofs.lemmas.Option.{none-some, same_Some}
use Rattle.ak_base.proofs.NameOrder.{names_exact}
use Rattle.ak_base.specs.Names.{name_cmp}
use Rattle.ak_base.specs.declared.cards.Card.{Card}
use Rattle.ak_base.specs.declared.names.Name.{Name}
use Rattle.ak_base.specs.declared.rows.Row.{Row}
use Rattle.ak_base.specs.declared.rows.Row.TheVariants as rows
use Rattle.ak_keep.proofs.CardsIn.{card_name, row_of_card}
use Rattle.ak_keep.proofs.Paging.{int_chain, less_than}
use Rattle.ak_keep.proofs.RowsByName.{named-get}
use Rattle.ak_keep.proofs.WaitingCards.{comes_later, less_from}
use Rattle.ak_keep.specs.Collections.{StandsUnderNames}
use Rattle.ak_keep.specs.Lookups.{as_card}
use Rattle.ak_keep.specs.WaitingCards.{AscendsAfter, DueKey, IsHeld, IsOneOf, IsWaitingPage, comes_after, due_cmp, is_due_by, key_of, last_place, waits}
use Rattle.ak_keep.specs.declared.queue_walks.Waiting.{Waiting}
use Rattle.ak_memory.specs.FoundBy.{found_by}
use Rattle.ak_memory.specs.Indexes.{HaveAllKeys}
use Rattle.ak_memory.specs.Places.{row_under, rows_at}
use Rattle.ak_memory.specs.QueueKeys.{QueueKey, card_of_key, card_place, card_waiting, has_queue_key, if_due_at, is_asked, is_asked_at, keys_after, place_cmp, queue_key_cmp, queue_run, start_of}
use Rattle.ak_memory.specs.declared.card_keys.CardKeys.{CardKeys}
use Rattle.ak_memory.specs.declared.places.Place.{Place}
use Rattle.ak_memory.specs.declared.versions.Version.TheVariants.{Now}
use Rattle.ak_memory.proofs.RowsUnder.{get-rows_at}

true_false : true ≡ false → ⊥
true_false is = subst T is tt

first_true : (a b : Bool) → (a && b) ≡ true → a ≡ true
first_true true b is = refl
first_true false b is = is

second_true : (a b : Bool) → (a && b) ≡ true → b ≡ true
second_true true b is = is
second_true false b is = absurd (true_false (sym is))

both_true : (a b : Bool) → a ≡ true → b ≡ true → (a && b) ≡ true
both_true true b g h = h
both_true false b g h = g

same_int : (a b : ℤ) → int_eq a b ≡ true → a ≡ b
same_int a b is = (signed_Decides a b).0 is

tied : (a b : ℤ) → a ≡ b → int_cmp a b ≡ Equal
tied a b is = ap (int_cmp a) (sym is) ∙ tied_itself int_cmp_total a

not_less : Greater ≡ Less → ⊥
not_less is = subst (λ r. T (is_gt r)) is tt

equal_less : Equal ≡ Less → ⊥
equal_less is = subst (λ r. T (is_eq r)) is tt

-- ---- a card and its key
-- the key of a card that is held under its own id
abbrev pub key_for : Card → QueueKey
key_for c = (c.queue, Some (card_place (key_of c)))

-- keys of one queue are in the order of their places
in_queue : (p q : ℤ) (x y : Option (ℤ × Name)) → p ≡ q → queue_key_cmp (p, x) (q, y) ≡ option_cmp place_cmp x y
in_queue p q x y same = ap (λ r. ordering_then r (option_cmp place_cmp x y)) (tied p q same)

keys_order : (c d : Card) → c.queue ≡ d.queue → queue_key_cmp (key_for c) (key_for d) ≡ due_cmp (key_of c) (key_of d)
keys_order c d same = in_queue c.queue d.queue (Some (card_place (key_of c))) (Some (card_place (key_of d))) same

start_order : (w : Waiting) (c : Card) → w.queue ≡ c.queue → is_lt (queue_key_cmp (start_of w) (key_for c)) ≡ comes_after w.past (key_of c)
start_order w c same =
    ap is_lt (in_queue w.queue c.queue (option_map card_place w.past) (Some (card_place (key_of c))) same)
    ∙ elim w.past as (λ past. is_lt (option_cmp place_cmp (option_map card_place past) (Some (card_place (key_of c)))) ≡ comes_after past (key_of c)) [
      | None ↦ refl
      | Some past ↦ refl
    ]

-- the card of a key is held under the key's name, and waits there
if_due-some : (queue due : ℤ) (o : Option Card) (c : Card) → option_and_then (if_due_at queue due) o ≡ Some c → (o ≡ Some c) × ((int_eq c.queue queue && int_eq c.due due) ≡ true)
if_due-some queue due None c is = absurd (none-some c is)
if_due-some queue due (Some d) c is =
    elim (int_eq d.queue queue && int_eq d.due due) as (λ b. (int_eq d.queue queue && int_eq d.due due) ≡ b → cond b (Some d) None ≡ Some c → (Some d ≡ Some c) × ((int_eq c.queue queue && int_eq c.due due) ≡ true)) [
      | true ↦ λ t k. (k, subst (λ (x : Card). (int_eq x.queue queue && int_eq x.due due) ≡ true) (same_Some d c k) t)
      | false ↦ λ _ k. absurd (none-some c k)
    ] refl is

pub record IsCardOf (places : List (Name × Place)) (key : QueueKey) (c : Card) : Type 0 where
  pub own : key ≡ key_for c
  pub held : IsHeld (rows_at Now places) c

card_at_place : (places : List (Name × Place)) (queue : ℤ) (at : Option (ℤ × Name)) (c : Card) → StandsUnderNames (rows_at Now places) → card_waiting places queue at ≡ Some c → IsCardOf places (queue, at) c
card_at_place places queue None c named is = absurd (none-some c is)
card_at_place places queue (Some place) c named is =
    let found = if_due-some queue place.0 (option_and_then as_card (row_under Now places place.1)) c is in
    let row : row_under Now places place.1 ≡ Some (rows.Card c) = row_of_card _ c found.0 in
    let got : get (rows_at Now places) place.1 ≡ Some (rows.Card c) = get-rows_at Now places place.1 ∙ row in
    let name : card_name c ≡ place.1 = named-get (rows_at Now places) place.1 (rows.Card c) named got in
    let of_queue : c.queue ≡ queue = same_int _ _ (first_true _ _ found.1) in
    let due : c.due ≡ place.0 = same_int _ _ (second_true _ _ found.1) in
    record {
      own = λ i. (sym of_queue i, Some (sym due i, sym name i));
      held = ap (option_and_then as_card) (ap (get (rows_at Now places)) name ∙ got);
    }

card_of : (places : List (Name × Place)) (key : QueueKey) (c : Card) → StandsUnderNames (rows_at Now places) → card_of_key places key ≡ Some c → IsCardOf places key c
card_of places key c named is = card_at_place places key.0 key.1 c named is

-- and a card that is held is the card of its key
due_itself : (c : Card) → if_due_at c.queue c.due c ≡ Some c
due_itself c = ap (λ b. cond b (Some c) None) (both_true _ _ ((signed_Decides c.queue c.queue).1 refl) ((signed_Decides c.due c.due).1 refl))

row_held : (places : List (Name × Place)) (c : Card) → IsHeld (rows_at Now places) c → row_under Now places (card_name c) ≡ Some (rows.Card c)
row_held places c is = sym (get-rows_at Now places (card_name c)) ∙ row_of_card _ c is

held_card : (places : List (Name × Place)) (c : Card) → IsHeld (rows_at Now places) c → card_of_key places (key_for c) ≡ Some c
held_card places c is = ap (λ (o : Option Row). option_and_then (if_due_at c.queue c.due) (option_and_then as_card o)) (row_held places c is) ∙ due_itself c

held_key : (keys : CardKeys) (places : List (Name × Place)) (c : Card) → HaveAllKeys keys places → IsHeld (rows_at Now places) c → has_queue_key keys.queues.keys (key_for c) ≡ true
held_key keys places c have is = (have Now (card_name c) (record { note = c.nid; queue = c.queue; due = c.due }) (ap (option_and_then found_by) (row_held places c is))).queue

-- ---- what is read is sound, and ascends
-- each key comes after this one
abbrev AreAfter : QueueKey → List QueueKey → Type 0
AreAfter start keys = AllByRecursion (λ key. queue_key_cmp start key ≡ Less) keys

-- the cards of these keys that are asked for come after this place
abbrev CardsAfter : Waiting → List (Name × Place) → Option DueKey → List QueueKey → Type 0
CardsAfter w places past keys = AllByRecursion (λ key. (c : Card) → card_of_key places key ≡ Some c → is_asked w key ≡ true → comes_after past (key_of c) ≡ true) keys

-- a card that is asked for is of the queue, and due in time
asked_card : (w : Waiting) (c : Card) → is_asked w (key_for c) ≡ true → (c.queue ≡ w.queue) × (is_due_by w.last c.due ≡ true)
asked_card w c is = (same_int _ _ (first_true _ _ is), second_true _ _ is)

-- those of later keys come after it
after_card : (w : Waiting) (places : List (Name × Place)) (c : Card) (keys : List QueueKey) → StandsUnderNames (rows_at Now places) → c.queue ≡ w.queue → AreAfter (key_for c) keys → CardsAfter w places (Some (key_of c)) keys
after_card w places c [] named of_queue after = tt
after_card w places c (key ∷ keys) named of_queue after = (
  λ d is asked.
      let one = card_of places key d named is in
      let queue = (asked_card w d (subst (λ (k : QueueKey). is_asked w k ≡ true) one.own asked)).0 in
      ap is_lt (sym (keys_order c d (of_queue ∙ sym queue)) ∙ ap (queue_key_cmp (key_for c)) (sym one.own) ∙ after.0),
  after_card w places c keys named of_queue after.1,
)

-- each card that is read is held and waits there
abbrev AreWaiting : Waiting → List (Name × Place) → List Card → Type 0
AreWaiting w places cards = AllByRecursion (λ c. IsHeld (rows_at Now places) c × (waits w c ≡ true)) cards

pub record IsReadRightly (w : Waiting) (places : List (Name × Place)) (past : Option DueKey) (cards : List Card) : Type 0 where
  pub sound : AreWaiting w places cards
  pub ascends : AscendsAfter past cards

waits_there : (w : Waiting) (c : Card) → is_asked w (key_for c) ≡ true → queue_key_cmp (start_of w) (key_for c) ≡ Less → waits w c ≡ true
waits_there w c asked after =
    let is = asked_card w c asked in
    both_true _ _ (first_true _ _ asked) (both_true _ _ is.1 (sym (start_order w c (sym is.0)) ∙ ap is_lt after))

read_one : (w : Waiting) (places : List (Name × Place)) (past : Option DueKey) (key : QueueKey) (keys : List QueueKey) (o : Option Card) → StandsUnderNames (rows_at Now places) → card_of_key places key ≡ o
    → is_asked w key ≡ true → queue_key_cmp (start_of w) key ≡ Less → AreAfter key keys → ((c : Card) → card_of_key places key ≡ Some c → is_asked w key ≡ true → comes_after past (key_of c) ≡ true)
    → CardsAfter w places past keys → ((p : Option DueKey) → CardsAfter w places p keys → IsReadRightly w places p (queue_run w places keys))
    → IsReadRightly w places past (option_to_list o ++ queue_run w places keys)
read_one w places past key keys None named is asked start after here later rest = rest past later
read_one w places past key keys (Some c) named is asked start after here later rest =
    let one = card_of places key c named is in
    let asked_one : is_asked w (key_for c) ≡ true = subst (λ (k : QueueKey). is_asked w k ≡ true) one.own asked in
    let more = rest (Some (key_of c)) (after_card w places c keys named (asked_card w c asked_one).0 (subst (λ (k : QueueKey). AreAfter k keys) one.own after)) in
    record {
      sound = ((one.held, waits_there w c asked_one (subst (λ (k : QueueKey). queue_key_cmp (start_of w) k ≡ Less) one.own start)), more.sound);
      ascends = (here c is asked, more.ascends);
    }

read_rightly : (w : Waiting) (places : List (Name × Place)) (past : Option DueKey) (keys : List QueueKey) → StandsUnderNames (rows_at Now places) → IsStrictlySortedBy queue_key_cmp keys → AreAfter (start_of w) keys
    → CardsAfter w places past keys → IsReadRightly w places past (queue_run w places keys)
unfolding IsStrictlySortedBy
read_rightly w places past [] named sorted after cards = record { sound = tt; ascends = tt }
read_rightly w places past (key ∷ keys) named sorted after cards =
    elim (is_asked w key) as (λ b. is_asked w key ≡ b → IsReadRightly w places past (cond b (option_to_list (card_of_key places key) ++ queue_run w places keys) [])) [
      | true ↦ λ asked. read_one w places past key keys (card_of_key places key) named refl asked after.0 sorted.0 cards.0 cards.1 (λ p more. read_rightly w places p keys named sorted.1 after.1 more)
      | false ↦ λ _. record { sound = tt; ascends = tt }
    ] refl

-- the cards of keys after the start come after the place of the start
first_cards : (w : Waiting) (places : List (Name × Place)) (keys : List QueueKey) → StandsUnderNames (rows_at Now places) → AreAfter (start_of w) keys → CardsAfter w places w.past keys
first_cards w places [] named after = tt
first_cards w places (key ∷ keys) named after = (
  λ c is asked.
      let one = card_of places key c named is in
      let queue = (asked_card w c (subst (λ (k : QueueKey). is_asked w k ≡ true) one.own asked)).0 in
      sym (start_order w c (sym queue)) ∙ ap is_lt (ap (queue_key_cmp (start_of w)) (sym one.own) ∙ after.0),
  first_cards w places keys named after.1,
)

-- ---- the keys after the start
all_left : (P : QueueKey → Type 0) (test : QueueKey → Bool) (keys : List QueueKey) → AllByRecursion P keys → AllByRecursion P (filter test keys)
all_left P test [] h = tt
all_left P test (key ∷ keys) h =
    let rest = all_left P test keys h.1 in
    elim (test key) as (λ b. AllByRecursion P (cond b (key ∷ filter test keys) (filter test keys))) [ true ↦ (h.0, rest) | false ↦ rest ]

left_sorted : (test : QueueKey → Bool) (keys : List QueueKey) → IsStrictlySortedBy queue_key_cmp keys → IsStrictlySortedBy queue_key_cmp (filter test keys)
unfolding IsStrictlySortedBy
left_sorted test [] h = tt
left_sorted test (key ∷ keys) h =
    let rest = left_sorted test keys h.1 in
    elim (test key) as (λ b. IsStrictlySortedBy queue_key_cmp (cond b (key ∷ filter test keys) (filter test keys))) [
      | true ↦ (all_left (λ other. queue_key_cmp key other ≡ Less) test keys h.0, rest)
      | false ↦ rest
    ]

left_after : (start : QueueKey) (keys : List QueueKey) → AreAfter start (keys_after start keys)
left_after start [] = tt
left_after start (key ∷ keys) =
    let rest = left_after start keys in
    elim (is_lt (queue_key_cmp start key)) as (λ b. is_lt (queue_key_cmp start key) ≡ b → AreAfter start (cond (b && true) (key ∷ keys_after start keys) (keys_after start keys))) [
      | true ↦ λ is. (less_from _ is, rest)
      | false ↦ λ _. rest
    ] refl

-- ---- nothing that waits is left out
due_before : (last : Option ℤ) (a b : ℤ) → is_due_by last b ≡ true → ((int_cmp a b ≡ Less) ⊎ (a ≡ b)) → is_due_by last a ≡ true
due_before None a b is before = refl
due_before (Some last) a b is (inl less) =
    elim (int_lt last a) as (λ x. int_lt last a ≡ x → not x ≡ true) [
      | true ↦ λ over. absurd (true_false (sym is ∙ ap not (int_chain last a b over (less_than a b less))))
      | false ↦ λ _. refl
    ] refl
due_before (Some last) a b is (inr same) = ap (λ x. not (int_lt last x)) same ∙ is

then_less : (r s : Ordering) → ordering_then r s ≡ Less → (r ≡ Less) ⊎ ((r ≡ Equal) × (s ≡ Less))
then_less Less s is = inl refl
then_less Equal s is = inr (refl, is)
then_less Greater s is = absurd (not_less is)

less_or_same : (a b : ℤ) (s : Ordering) → ordering_then (int_cmp a b) s ≡ Less → ((int_cmp a b ≡ Less) ⊎ (a ≡ b))
less_or_same a b s is = either (then_less (int_cmp a b) s is)
  where
    either : (int_cmp a b ≡ Less) ⊎ ((int_cmp a b ≡ Equal) × (s ≡ Less)) → ((int_cmp a b ≡ Less) ⊎ (a ≡ b))
    either (inl less) = inl less
    either (inr tie) = inr (int_cmp-IsAntisymmetric a b tie.0)

-- a queue between two that are the same is the same
no_loop : (a b : ℤ) → int_cmp a b ≡ Less → ((int_cmp b a ≡ Less) ⊎ (b ≡ a)) → ⊥
no_loop a b less (inl back) = equal_less (sym (tied a a refl) ∙ int_cmp_total.trans a b a less back)
no_loop a b less (inr same) = equal_less (sym (tied a b (sym same)) ∙ less)

between : (a b : ℤ) → ((int_cmp a b ≡ Less) ⊎ (a ≡ b)) → ((int_cmp b a ≡ Less) ⊎ (b ≡ a)) → b ≡ a
between a b (inl less) back = absurd (no_loop a b less back)
between a b (inr same) back = sym same

none_after : (s : Option (ℤ × Name)) → option_cmp place_cmp s None ≡ Less → ⊥
none_after None is = equal_less is
none_after (Some place) is = not_less is

-- a place between the start and one that is asked for is asked for
asked_place : (w : Waiting) (at : Option (ℤ × Name)) (place : ℤ × Name) → option_cmp place_cmp (option_map card_place w.past) at ≡ Less → option_cmp place_cmp at (Some place) ≡ Less → is_due_by w.last place.0 ≡ true
    → is_asked_at w w.queue at ≡ true
asked_place w None place after before due = absurd (none_after (option_map card_place w.past) after)
asked_place w (Some other) place after before due =
    both_true _ _ ((signed_Decides w.queue w.queue).1 refl) (due_before w.last other.0 place.0 due (less_or_same other.0 place.0 (name_cmp other.1 place.1) before))

asked_between : (w : Waiting) (c : Card) (key : QueueKey) → is_asked w (key_for c) ≡ true → queue_key_cmp (start_of w) key ≡ Less → queue_key_cmp key (key_for c) ≡ Less → is_asked w key ≡ true
asked_between w c key asked after before =
    let is = asked_card w c asked in
    let back : ((int_cmp key.0 w.queue ≡ Less) ⊎ (key.0 ≡ w.queue)) = subst (λ (q : ℤ). ((int_cmp key.0 q ≡ Less) ⊎ (key.0 ≡ q))) is.0 (less_or_same key.0 c.queue (option_cmp place_cmp key.1 (Some (card_place (key_of c)))) before) in
    let queue : key.0 ≡ w.queue = between w.queue key.0 (less_or_same w.queue key.0 (option_cmp place_cmp (option_map card_place w.past) key.1) after) back in
    let late = sym (in_queue w.queue key.0 (option_map card_place w.past) key.1 (sym queue)) ∙ after in
    let early = sym (in_queue key.0 c.queue key.1 (Some (card_place (key_of c))) (queue ∙ sym is.0)) ∙ before in
    subst (λ (q : ℤ). is_asked_at w q key.1 ≡ true) (sym queue) (asked_place w key.1 (card_place (key_of c)) late early is.1)

-- keys that are tied are one
both_equal : (a b : Ordering) → ordering_then a b ≡ Equal → (a ≡ Equal) × (b ≡ Equal)
both_equal Less b h = absurd (equal_less (sym h))
both_equal Equal b h = (refl, h)
both_equal Greater b h = absurd (subst (λ r. T (is_eq r)) (sym h) tt)

place_exact : (x y : ℤ × Name) → place_cmp x y ≡ Equal → x ≡ y
place_exact x y is =
    let parts = both_equal (int_cmp x.0 y.0) (name_cmp x.1 y.1) is in
    λ i. (int_cmp-IsAntisymmetric x.0 y.0 parts.0 i, names_exact x.1 y.1 parts.1 i)

places_exact : (x y : Option (ℤ × Name)) → option_cmp place_cmp x y ≡ Equal → x ≡ y
places_exact None None is = refl
places_exact None (Some y) is = absurd (equal_less (sym is))
places_exact (Some x) None is = absurd (subst (λ r. T (is_eq r)) (sym is) tt)
places_exact (Some x) (Some y) is = ap (λ (p : ℤ × Name). Some p) (place_exact x y is)

queue_keys_exact : (x y : QueueKey) → queue_key_cmp x y ≡ Equal → x ≡ y
queue_keys_exact x y is =
    let parts = both_equal (int_cmp x.0 y.0) (option_cmp place_cmp x.1 y.1) is in
    λ i. (int_cmp-IsAntisymmetric x.0 y.0 parts.0 i, places_exact x.1 y.1 parts.1 i)

-- a key that is among later ones is later
later_key : (x key : QueueKey) (keys : List QueueKey) → AreAfter x keys → has_queue_key keys key ≡ true → queue_key_cmp x key ≡ Less
later_key x key [] after is = absurd (true_false (sym is))
later_key x key (y ∷ keys) after is =
    elim (queue_key_cmp key y) as (λ r. queue_key_cmp key y ≡ r → (is_eq r || has_queue_key keys key) ≡ true → queue_key_cmp x key ≡ Less) [
      | Less ↦ λ _ k. later_key x key keys after.1 k
      | Equal ↦ λ tie _. subst (λ (q : QueueKey). queue_key_cmp x q ≡ Less) (sym (queue_keys_exact key y tie)) after.0
      | Greater ↦ λ _ k. later_key x key keys after.1 k
    ] refl is

one_of_more : (more cards : List Card) (c : Card) → IsOneOf cards c → IsOneOf (more ++ cards) c
one_of_more [] cards c is = is
one_of_more (d ∷ more) cards c is = inr (one_of_more more cards c is)

one_itself : (o : Option Card) (cards : List Card) (c : Card) → o ≡ Some c → IsOneOf (option_to_list o ++ cards) c
one_itself o cards c is = subst (λ (x : Option Card). IsOneOf (option_to_list x ++ cards) c) (sym is) (inl refl)

is_read : (w : Waiting) (places : List (Name × Place)) (c : Card) (keys : List QueueKey) → IsStrictlySortedBy queue_key_cmp keys → has_queue_key keys (key_for c) ≡ true
    → is_lt (queue_key_cmp (start_of w) (key_for c)) ≡ true → is_asked w (key_for c) ≡ true → card_of_key places (key_for c) ≡ Some c → IsOneOf (queue_run w places (keys_after (start_of w) keys)) c
unfolding IsStrictlySortedBy
is_read w places c [] sorted has after asked is = absurd (true_false (sym has))
is_read w places c (x ∷ keys) sorted has after asked is =
    let start = start_of w in
    let left = keys_after start keys in
    let later : has_queue_key keys (key_for c) ≡ true → IsOneOf (queue_run w places (keys_after start (x ∷ keys))) c =
    (λ k.
    let rest : IsOneOf (queue_run w places left) c = is_read w places c keys sorted.1 k after asked is in
    elim (is_lt (queue_key_cmp start x)) as (λ b. is_lt (queue_key_cmp start x) ≡ b → IsOneOf (queue_run w places (cond (b && true) (x ∷ left) left)) c) [
      | true ↦ λ late.
          let here : is_asked w x ≡ true = asked_between w c x asked (less_from _ late) (later_key x (key_for c) keys sorted.0 k) in
          subst (λ b. IsOneOf (cond b (option_to_list (card_of_key places x) ++ queue_run w places left) []) c) (sym here) (one_of_more (option_to_list (card_of_key places x)) (queue_run w places left) c rest)
      | false ↦ λ _. rest
    ] refl) in
    elim (queue_key_cmp (key_for c) x) as (λ r. queue_key_cmp (key_for c) x ≡ r → (is_eq r || has_queue_key keys (key_for c)) ≡ true → IsOneOf (queue_run w places (keys_after start (x ∷ keys))) c) [
      | Less ↦ λ _ k. later k
      | Equal ↦ λ tie _.
          let same : key_for c ≡ x = queue_keys_exact (key_for c) x tie in
          let late : is_lt (queue_key_cmp start x) ≡ true = ap (λ (q : QueueKey). is_lt (queue_key_cmp start q)) (sym same) ∙ after in
          let here : is_asked w x ≡ true = ap (is_asked w) (sym same) ∙ asked in
          subst (λ b. IsOneOf (queue_run w places (cond (b && true) (x ∷ left) left)) c) (sym late)
          (subst (λ b. IsOneOf (cond b (option_to_list (card_of_key places x) ++ queue_run w places left) []) c) (sym here)
          (one_itself (card_of_key places x) (queue_run w places left) c (ap (card_of_key places) (sym same) ∙ is)))
      | Greater ↦ λ _ k. later k
    ] refl has

-- ---- the first of them
all_first : (P : Card → Type 0) (n : ℕ) (cards : List Card) → AllByRecursion P cards → AllByRecursion P (take n cards)
all_first P zero cards h = tt
all_first P (suc n) [] h = tt
all_first P (suc n) (c ∷ cards) h = (h.0, all_first P n cards h.1)

few_first : (n : ℕ) (cards : List Card) → length (take n cards) ≤ n
few_first zero cards = omega arith
few_first (suc n) [] = omega arith
few_first (suc n) (c ∷ cards) = let rest = few_first n cards in omega (arith, rest)

first_ascend : (n : ℕ) (past : Option DueKey) (cards : List Card) → AscendsAfter past cards → AscendsAfter past (take n cards)
first_ascend zero past cards h = tt
first_ascend (suc n) past [] h = tt
first_ascend (suc n) past (c ∷ cards) h = (h.0, first_ascend n (Some (key_of c)) cards h.1)

each_after : (past : Option DueKey) (cards : List Card) (c : Card) → AscendsAfter past cards → IsOneOf cards c → comes_after past (key_of c) ≡ true
each_after past [] c h is = absurd is
each_after past (d ∷ cards) c h (inl same) = subst (λ (x : Card). comes_after past (key_of x) ≡ true) same h.0
each_after past (d ∷ cards) c h (inr is) = comes_later past (key_of d) (key_of c) h.0 (less_from _ (each_after (Some (key_of d)) cards c h.1 is))

-- a card is among the first, or comes after them
abbrev IsSplit : ℕ → Option DueKey → List Card → Card → Type 0
IsSplit n past cards c = IsOneOf (take n cards) c ⊎ ((length (take n cards) ≡ n) × (comes_after (last_place past (take n cards)) (key_of c) ≡ true))

split_more : (n : ℕ) (past : Option DueKey) (d : Card) (cards : List Card) (c : Card) → IsSplit n (Some (key_of d)) cards c → IsSplit (suc n) past (d ∷ cards) c
split_more n past d cards c (inl is) = inl (inr is)
split_more n past d cards c (inr after) = inr (ap suc after.0, after.1)

split : (n : ℕ) (past : Option DueKey) (cards : List Card) (c : Card) → AscendsAfter past cards → IsOneOf cards c → IsSplit n past cards c
split zero past cards c h is = inr (refl, each_after past cards c h is)
split (suc n) past [] c h is = absurd is
split (suc n) past (d ∷ cards) c h (inl same) = inl (inl same)
split (suc n) past (d ∷ cards) c h (inr is) = split_more n past d cards c (split n (Some (key_of d)) cards c h.1 is)

waits-asked : (w : Waiting) (c : Card) → waits w c ≡ true → is_asked w (key_for c) ≡ true
waits-asked w c is =
    let of_queue = int_eq c.queue w.queue in
    let by = is_due_by w.last c.due in
    let ahead = comes_after w.past (key_of c) in
    both_true of_queue by (first_true of_queue (by && ahead) is) (first_true by ahead (second_true of_queue (by && ahead) is))

waits-after : (w : Waiting) (c : Card) → waits w c ≡ true → is_lt (queue_key_cmp (start_of w) (key_for c)) ≡ true
waits-after w c is =
    let of_queue = int_eq c.queue w.queue in
    let by = is_due_by w.last c.due in
    let ahead = comes_after w.past (key_of c) in
    start_order w c (sym (same_int c.queue w.queue (first_true of_queue (by && ahead) is))) ∙ second_true by ahead (second_true of_queue (by && ahead) is)

-- the first of the run of keys are a page of the cards that are asked for
pub run_page : (keys : CardKeys) (places : List (Name × Place)) (w : Waiting) (limit : ℕ) (page : List Card) → StandsUnderNames (rows_at Now places) → HaveAllKeys keys places
    → IsStrictlySortedBy queue_key_cmp keys.queues.keys → page ≡ take limit (queue_run w places (keys_after (start_of w) keys.queues.keys)) → IsWaitingPage (IsHeld (rows_at Now places)) w limit page
run_page keys places w limit page named have sorted is =
    let all = keys.queues.keys in
    let left = keys_after (start_of w) all in
    let run = queue_run w places left in
    let after = left_after (start_of w) all in
    let rightly = read_rightly w places w.past left named (left_sorted (range_contains queue_key_cmp (Excluded (start_of w)) Unbounded) all sorted) after (first_cards w places left named after) in
    subst (λ (p : List Card). IsWaitingPage (IsHeld (rows_at Now places)) w limit p) (sym is)
    (record {
      sound = all_first (λ c. IsHeld (rows_at Now places) c × (waits w c ≡ true)) limit run rightly.sound;
      ascends = first_ascend limit w.past run rightly.ascends;
      fits = few_first limit run;
      whole = λ c held waiting. split limit w.past run c rightly.ascends
          (is_read w places c all sorted (held_key keys places c have held) (waits-after w c waiting) (waits-asked w c waiting) (held_card places c held));
    })

-- ---- one key after the other
pub takes_one : (limit : ℕ) (page all left : List Card) (o : Option Card) → page ++ take (limit - length page) (option_to_list o ++ left) ≡ all → length page < limit
    → (page ++ option_to_list o) ++ take (limit - length (page ++ option_to_list o)) left ≡ all
takes_one limit page all left None is room = subst (λ (ps : List Card). ps ++ take (limit - length ps) left ≡ all) (sym (append-nil page)) is
takes_one limit page all left (Some c) is room =
    let n = limit - length (page ++ c ∷ []) in
    let more : suc n ≡ limit - length page = omega (arith, length-append page (c ∷ []), room) in
    append_assoc page (c ∷ []) (take n left) ∙ ap (λ m. page ++ take m (c ∷ left)) more ∙ is

pub one_fits : (limit : ℕ) (page : List Card) (o : Option Card) → length page < limit → length (page ++ option_to_list o) ≤ limit
one_fits limit page None room = omega (arith, length-append page [], room)
one_fits limit page (Some c) room = omega (arith, length-append page (c ∷ []), room)

nothing_left : (n : ℕ) (page : List Card) → page ≡ page ++ take n []
nothing_left zero page = sym (append-nil page)
nothing_left (suc n) page = sym (append-nil page)

-- a key that is not asked for ends it
pub run_ends : (w : Waiting) (places : List (Name × Place)) (limit : ℕ) (page all : List Card) (key : QueueKey) (keys : List QueueKey) → page ++ take (limit - length page) (queue_run w places (key ∷ keys)) ≡ all
    → is_asked w key ≡ false → page ≡ all
run_ends w places limit page all key keys is other =
    nothing_left (limit - length page) page
    ∙ sym (ap (λ b. page ++ take (limit - length page) (cond b (option_to_list (card_of_key places key) ++ queue_run w places keys) [])) other) ∙ is
