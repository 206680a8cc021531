-- The next card of a day.
use Rattle.std.specs.Prelude.{◌≡◌, ℕ, ℤ, pos, ◌+◌, ◌/◌, ◌%◌, max, Bool, true, false, ◌&&◌, ◌||◌, ◌==◌, nat_lt, not, if◌then◌else◌, List, [], ◌∷◌, length, slice_get, Option, Some, None}
use Rattle.std.specs.Option.{option_map, option_or}
use Rattle.std.specs.Ordering.{int_eq}
use Rattle.ak_base.specs.declared.heads.Head.{Head}
use Rattle.ak_keep.specs.Collections.{Holding}
use Rattle.ak_queue.specs.Queues.{queue_of}
use Rattle.ak_queue.specs.declared.nexts.Mixing.{Mixing}
use Rattle.ak_queue.specs.declared.nexts.Progress.{Progress}
use Rattle.ak_queue.specs.declared.day_queues.DayQueue.{DayQueue}

-- how the settings mix the lists; without a head new cards come among reviews, and reviews before cards learned over days
abbrev pub mixing_in : Option Head → Mixing
mixing_in None = record { spread = pos 0; day_learn_first = false }
mixing_in (Some head) = record { spread = head.conf.new_spread; day_learn_first = head.conf.day_learn_first }

-- after how many cards a new one comes: as many as all new cards and reviews make for each new card, and at least 2 while reviews are left
abbrev pub new_card_period : DayQueue → ℕ
new_card_period q = max (if length q.reviews == 0 then 1 else 2) ((length q.new_cards + length q.reviews) / length q.new_cards)

-- whether a new card comes by the spread, if there is one: always if new cards come first, and once a period if they are mixed
abbrev pub is_due_by_spread : ℤ → ℕ → DayQueue → Bool
is_due_by_spread spread done q = int_eq spread (pos 2) || (int_eq spread (pos 0) && (nat_lt 0 done && (done % new_card_period q == 0)))

-- whether it is time for a new card
unfoldable pub is_time_for_new : ℤ → ℕ → DayQueue → Bool
is_time_for_new spread done q = not (length q.new_cards == 0) && is_due_by_spread spread done q

-- the first of a list, if its time has come
abbrev pub first_if : Bool → List ℤ → Option ℤ
first_if false ids = None
first_if true ids = slice_get ids 0

-- the first that is there
abbrev pub first_of : List (Option ℤ) → Option ℤ
first_of [] = None
first_of (id ∷ ids) = option_or id (first_of ids)

-- the next card, after a number of answers: learning cards that are due, new cards in their turn, cards learned over days if they
-- come first, reviews, cards learned over days, new cards, and at last learning cards that are due soon
abbrev pub next_of : Mixing → ℕ → DayQueue → Option ℤ
next_of mixing done q =
    first_of
    (first_if true q.learning
    ∷ first_if (is_time_for_new mixing.spread done q) q.new_cards
    ∷ first_if mixing.day_learn_first q.day_learning
    ∷ first_if true q.reviews
    ∷ first_if true q.day_learning
    ∷ first_if true q.new_cards
    ∷ first_if true q.soon
    ∷ [])

-- the next card of the deck of an id, after what was done; None if the deck is not held
abbrev pub next_in : Holding → Progress → ℤ → Option (Option ℤ)
next_in h progress id = option_map (next_of (mixing_in h.head) progress.done) (queue_of h progress.day id)

-- no card waits in any list
pub record IsEmpty (q : DayQueue) : Type 0 where
  pub learning : q.learning ≡ []
  pub soon : q.soon ≡ []
  pub new_cards : q.new_cards ≡ []
  pub day_learning : q.day_learning ≡ []
  pub reviews : q.reviews ≡ []
