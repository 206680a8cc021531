-- The next card asks for the first review alone, if there are no new cards.
use Rattle.std.proofs.Common.{◌≡◌, ◌&&◌, ◌==◌, ℕ, ℤ, Bool, true, false, if◌then◌else◌, List, [], ◌∷◌, length, take, Option, Some, None, slice_get, option_map, refl, sym, ap, ◌∙◌, arith}
use Rattle.std.proofs.lemmas.Option.{none-some, same_Some}
use Rattle.std.specs.Option.{option_or}
use Rattle.ak_base.specs.declared.decks.Deck.{Deck}
use Rattle.ak_queue.proofs.AllGathered.{and_second}
use Rattle.ak_queue.proofs.Mixed.{none_first}
use Rattle.ak_queue.specs.Nexts.{first_if, is_time_for_new, next_of}
use Rattle.ak_queue.specs.Queues.{queue_asked}
use Rattle.ak_queue.specs.declared.nexts.Mixing.{Mixing}
use Rattle.ak_queue.specs.declared.day_queues.DayQueue.{DayQueue}

first_of_first : (ids : List ℤ) → slice_get (take 1 ids) 0 ≡ slice_get ids 0
first_of_first [] = refl
first_of_first (id ∷ ids) = refl

-- without new cards it is no time for one, however many reviews there are
no_new : (in_turn : Bool) (new_cards : List ℤ) → (length new_cards == 0) ≡ true → first_if in_turn new_cards ≡ None
no_new in_turn [] none = none_first in_turn
no_new in_turn (id ∷ ids) none = absurd (grind (arith, none))

same_next : (mixing : Mixing) (done : ℕ) (q : DayQueue) → (length q.new_cards == 0) ≡ true → next_of mixing done (record q { reviews = take 1 q.reviews }) ≡ next_of mixing done q
same_next mixing done q none =
    let fewer = record q { reviews = take 1 q.reviews } in
    (λ i. option_or (first_if true q.learning)
    (option_or ((no_new (is_time_for_new mixing.spread done fewer) q.new_cards none ∙ sym (no_new (is_time_for_new mixing.spread done q) q.new_cards none)) i)
    (option_or (first_if mixing.day_learn_first q.day_learning)
    (option_or (first_of_first q.reviews i) (option_or (first_if true q.day_learning) (option_or (first_if true q.new_cards) (option_or (first_if true q.soon) None)))))))

-- the next card of as much of a queue as is asked for
next_asked : (for_next : Bool) (mixing : Mixing) (done : ℕ) (q : DayQueue) → next_of mixing done (queue_asked for_next q) ≡ next_of mixing done q
next_asked for_next mixing done q =
    elim (for_next && (length q.new_cards == 0)) as (λ b. (for_next && (length q.new_cards == 0)) ≡ b → next_of mixing done (if b then record q { reviews = take 1 q.reviews } else q) ≡ next_of mixing done q) [
      | true ↦ λ t. same_next mixing done q (and_second for_next (length q.new_cards == 0) t)
      | false ↦ λ _. refl
    ] refl

-- and of the queue of a deck that was found
pub next_found : (queue_of : Deck → DayQueue) (mixing : Mixing) (done : ℕ) (deck : Option Deck) (queue : DayQueue) → option_map (λ (d : Deck). queue_asked true (queue_of d)) deck ≡ Some queue
    → option_map (next_of mixing done) (option_map queue_of deck) ≡ Some (next_of mixing done queue)
next_found queue_of mixing done None queue is = absurd (none-some queue is)
next_found queue_of mixing done (Some deck) queue is = ap Some (sym (next_asked true mixing done (queue_of deck)) ∙ ap (next_of mixing done) (same_Some (queue_asked true (queue_of deck)) queue is))
