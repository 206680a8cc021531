-- The queue of what was read is the queue of the deck.
use Rattle.std.proofs.Common.{◌≡◌, ◌≤◌, ◌&&◌, ◌==◌, ℕ, ℤ, zero, suc, min, Bool, true, false, if◌then◌else◌, List, map, length, filter_map, take, Option, Some, None, IfSome, Result, Ok, Err, IfOk, option_map, refl, sym, ap, subst, ◌∙◌, arith}
use Rattle.std.proofs.lemmas.List.{take-map, take-take}
use Rattle.ak_base.specs.declared.cards.Card.{Card}
use Rattle.ak_base.specs.declared.days.Day.{Day}
use Rattle.ak_base.specs.declared.decks.Deck.{Deck}
use Rattle.ak_base.specs.declared.heads.Head.{Head}
use Rattle.ak_keep.specs.Collections.{Holding}
use Rattle.ak_keep.specs.Lookups.{deck_at, decks_in}
use Rattle.ak_keep.specs.Marks.{WithMark}
use Rattle.ak_keep.specs.declared.keepers.KeepFault.{KeepFault}
use Rattle.ak_queue.specs.Choices.{first_choice}
use Rattle.ak_queue.specs.Gathering.{AddsFirstReviews, HasAllButReviews, HasAllOf}
use Rattle.ak_queue.specs.Homes.{cards_in}
use Rattle.ak_queue.specs.Limits.{all_limits, limits_of, most_reviews}
use Rattle.ak_queue.specs.Lists.{QueueView, by_due, due_key, is_due_review}
use Rattle.ak_queue.specs.Nexts.{mixing_in, next_of}
use Rattle.ak_queue.specs.Orders.{DueKey, NewKey, due_cmp, in_order}
use Rattle.ak_queue.specs.Queues.{ahead_in, needed_reviews, queue_ahead, queue_ahead_of, queue_asked, queue_by, queue_of, queue_of_deck, queue_within, queue_under, scope_at}
use Rattle.ak_queue.specs.declared.day_queues.DayQueue.{DayQueue}
use Rattle.ak_queue.specs.declared.gathered.Gathered.{Gathered}
use Rattle.ak_queue.specs.declared.limits.DeckLimits.{DeckLimits}
use Rattle.ak_queue.specs.declared.queues.LookAhead.{LookAhead}
use Rattle.ak_queue.specs.declared.nexts.Mixing.{Mixing}
use Rattle.ak_queue.proofs.AllGathered.{fewer_needed}
use Rattle.ak_queue.proofs.FirstOfNext.{next_found}

-- the first review of some of them is the first of all
first_taken : {X : Type 0} (most : ℕ) (xs : List X) → take (min most 1) xs ≡ take 1 (take most xs)
first_taken zero xs = refl
first_taken (suc most) xs = let one : min (suc most) 1 ≡ 1 = omega arith in ap (λ n. take n xs) one ∙ sym (take-take 1 (suc most) xs (omega arith))

-- the lists of all that was gathered are those of the cards
assembled : (s : QueueView) (cards : List Card) (g : Gathered) (own : DeckLimits) (limits : List DeckLimits) (new_cards : List ℤ) (n : ℕ) → g.most ≡ n → new_cards ≡ (queue_under s own limits cards).new_cards → HasAllOf s cards g
    → queue_by g new_cards ≡ record (queue_under s own limits cards) { reviews = take n (by_due is_due_review s cards) }
assembled s cards g own limits new_cards n most new_are has = λ i. record {
  learning = map (λ (key : DueKey). key.1) (has.learning i);
  soon = map (λ (key : DueKey). key.1) (has.soon i);
  new_cards = new_are i;
  day_learning = map (λ (key : DueKey). key.1) (has.day_learning i);
  reviews = (take-map (λ (key : DueKey). key.1) g.most g.reviews.keys
      ∙ ap (map (λ (key : DueKey). key.1)) has.reviews
      ∙ sym (take-map (λ (key : DueKey). key.1) g.most (in_order due_cmp (filter_map (due_key is_due_review s) cards)))
      ∙ ap (λ n. take n (by_due is_due_review s cards)) most) i;
}

-- as many reviews as are looked for are those of the queue that is asked for
asked : (for_next : Bool) (s : QueueView) (cards : List Card) (own : DeckLimits) (limits : List DeckLimits)
    → record (queue_under s own limits cards) { reviews = take (needed_reviews for_next (most_reviews s.root own limits) (queue_under s own limits cards).new_cards) (by_due is_due_review s cards) }
    ≡ queue_asked for_next (queue_under s own limits cards)
asked for_next s cards own limits =
    let q = queue_under s own limits cards in
    elim (for_next && (length q.new_cards == 0)) as (λ b. record q { reviews = take (if b then min (most_reviews s.root own limits) 1 else most_reviews s.root own limits) (by_due is_due_review s cards) }
    ≡ (if b then record q { reviews = take 1 q.reviews } else q)) [
      | true ↦ ap (λ ids. record q { reviews = ids }) (first_taken (most_reviews s.root own limits) (by_due is_due_review s cards))
      | false ↦ refl
    ]

-- at most so many reviews are looked for as there may be
pub needed_fewer : (for_next : Bool) (most : ℕ) (new_cards : List ℤ) → needed_reviews for_next most new_cards ≤ most
needed_fewer for_next most new_cards = elim (for_next && (length new_cards == 0)) as (λ b. (if b then min most 1 else most) ≤ most) [ true ↦ omega arith | false ↦ omega arith ]

-- the lists of what was gathered, if it is told what is held: all but the reviews, then as many of these as are looked for
pub lists_told : (told : Option (WithMark Holding)) (for_next : Bool) (s : QueueView) (d e : Gathered) (own : DeckLimits) (limits : List DeckLimits) (most n : ℕ) (new_cards : List ℤ) (queue : DayQueue)
    → d.most ≡ most → most ≡ most_reviews s.root own limits → n ≡ needed_reviews for_next most new_cards → e.most ≡ n → new_cards ≡ map (λ key. key.2) (first_choice limits d.new_cards.keys)
    → IfSome told (λ w. HasAllButReviews s (cards_in w.current.rows) d) → IfSome told (λ w. AddsFirstReviews s (cards_in w.current.rows) (record d { most = n }) e)
    → queue ≡ queue_by e new_cards → IfSome told (λ w. queue ≡ queue_asked for_next (queue_under s own limits (cards_in w.current.rows)))
lists_told None for_next s d e own limits most n new_cards queue d_most most_is n_is e_most new_are has adds is = tt
lists_told (Some w) for_next s d e own limits most n new_cards queue d_most most_is n_is e_most new_are has adds is =
    let cards = cards_in w.current.rows in
    let chosen : new_cards ≡ (queue_under s own limits cards).new_cards = new_are ∙ ap (λ keys. map (λ (key : NewKey). key.2) (first_choice limits keys)) has.new_cards in
    let needed : n ≡ needed_reviews for_next (most_reviews s.root own limits) (queue_under s own limits cards).new_cards = n_is ∙ (λ i. needed_reviews for_next (most_is i) (chosen i)) in
    let fewer : n ≤ d.most = subst (λ (m : ℕ). n ≤ m) (sym d_most) (subst (λ (m : ℕ). m ≤ most) (sym n_is) (needed_fewer for_next most new_cards)) in
    is
    ∙ assembled s cards e own limits new_cards _ (e_most ∙ needed) chosen (adds (fewer_needed s cards d n fewer has))
    ∙ asked for_next s cards own limits

-- the queue under limits that were read
pub limits_told : (told : Option (WithMark Holding)) (for_next : Bool) (s : QueueView) (deck : Deck) (decks : List Deck) (own : DeckLimits) (limits : List DeckLimits) (queue : DayQueue)
    → IfSome told (λ w. own ≡ limits_of w.current.rows s.day deck) → IfSome told (λ w. limits ≡ all_limits w.current.rows s.day s.root decks)
    → IfSome told (λ w. queue ≡ queue_asked for_next (queue_under s own limits (cards_in w.current.rows))) → IfSome told (λ w. queue ≡ queue_asked for_next (queue_within w.current s deck decks))
limits_told None for_next s deck decks own limits queue own_is limits_are is = tt
limits_told (Some w) for_next s deck decks own limits queue own_is limits_are is = is ∙ (λ i. queue_asked for_next (queue_under s (own_is i) (limits_are i) (cards_in w.current.rows)))

-- the queue of a view that was read
pub queue_told : (told : Option (WithMark Holding)) (deck : Deck) (ahead : LookAhead) (decks : List Deck) (s : QueueView) (for_next : Bool) (queue : DayQueue)
    → IfSome told (λ w. decks ≡ decks_in w.current.rows) → s ≡ scope_at ahead deck decks → for_next ≡ ahead.for_next
    → IfSome told (λ w. queue ≡ queue_asked for_next (queue_within w.current s deck decks)) → IfSome told (λ w. queue ≡ queue_ahead w.current ahead deck)
queue_told None deck ahead decks s for_next queue decks_are scope_is asked_is is = tt
queue_told (Some w) deck ahead decks s for_next queue decks_are scope_is asked_is is =
    is ∙ (λ i. queue_asked (asked_is i) (queue_within w.current ((scope_is ∙ ap (scope_at ahead deck) decks_are) i) deck (decks_are i)))

-- the queue of a deck that was found
pub found_told : (told : Option (WithMark Holding)) (ahead : LookAhead) (id : ℤ) (found : Option Deck) (deck : Deck) (queue : DayQueue) → found ≡ Some deck → IfSome told (λ w. found ≡ deck_at w.current.rows id)
    → IfSome told (λ w. queue ≡ queue_ahead w.current ahead deck) → IfSome told (λ w. Some queue ≡ queue_ahead_of w.current ahead id)
found_told None ahead id found deck queue some read is = tt
found_told (Some w) ahead id found deck queue some read is = ap Some is ∙ sym (ap (option_map (queue_ahead w.current ahead)) (sym read ∙ some))

-- the whole queue, by the head that was read
pub whole_told : (told : Option (WithMark Holding)) (day : Day) (id : ℤ) (head : Option Head) (ahead : LookAhead) (queue : DayQueue) → ahead ≡ ahead_in day head false → IfSome told (λ w. head ≡ w.current.head)
    → IfSome told (λ w. queue_ahead_of w.current ahead id ≡ Some queue) → IfSome told (λ w. queue_of w.current day id ≡ Some queue)
whole_told None day id head ahead queue ahead_is head_is is = tt
whole_told (Some w) day id head ahead queue ahead_is head_is is =
    ap (λ (a : LookAhead). queue_ahead_of w.current a id) (sym (ahead_is ∙ ap (λ (o : Option Head). ahead_in day o false) head_is)) ∙ is

-- the next card of a queue, by the settings that were read
pub next_told : (told : Option (WithMark Holding)) (day : Day) (id : ℤ) (done : ℕ) (queue : DayQueue) (head : Option Head) (ahead : LookAhead) (mixing : Mixing) (card : Option ℤ) → ahead ≡ ahead_in day head true
    → IfSome told (λ w. head ≡ w.current.head) → IfSome told (λ w. queue_ahead_of w.current ahead id ≡ Some queue) → mixing ≡ mixing_in head → card ≡ next_of mixing done queue
    → IfSome told (λ w. option_map (next_of (mixing_in w.current.head) done) (queue_of w.current day id) ≡ Some card)
next_told None day id done queue head ahead mixing card ahead_is head_is queue_is mixing_is card_is = tt
next_told (Some w) day id done queue head ahead mixing card ahead_is head_is queue_is mixing_is card_is =
    next_found (queue_of_deck w.current day) (mixing_in w.current.head) done (deck_at w.current.rows id) queue
    (ap (λ (a : LookAhead). queue_ahead_of w.current a id) (sym (ahead_is ∙ ap (λ (o : Option Head). ahead_in day o true) head_is)) ∙ queue_is)
    ∙ ap (λ (m : Mixing). Some (next_of m done queue)) (sym (mixing_is ∙ ap mixing_in head_is))
    ∙ ap Some (sym card_is)

-- what is true of an answer, if it is told what is held, gives what else is true of it
pub answer_told : {T : Type 0} (told : Option (WithMark Holding)) (result : Result T KeepFault) (P Q : Holding → T → Type 0)
    → ((answer : T) → IfSome told (λ w. P w.current answer) → IfSome told (λ w. Q w.current answer))
    → IfOk result (λ answer. IfSome told (λ w. P w.current answer)) → IfOk result (λ answer. IfSome told (λ w. Q w.current answer))
answer_told told (Ok answer) P Q step is = step answer is
answer_told told (Err fault) P Q step is = tt
