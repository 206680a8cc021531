-- Small days, in numbers.
use Rattle.std.specs.Prelude.{ℕ, ℤ, pos, false, List, [], ◌∷◌, map, codes, None, ◌≡◌, true, Some}
use Rattle.std.proofs.Common.{refl}
use Rattle.ak_base.specs.declared.cards.Card.{Card}
use Rattle.ak_base.specs.declared.decks.Count.{Count}
use Rattle.ak_queue.specs.Choices.{first_choice}
use Rattle.ak_queue.specs.Homes.{Parts}
use Rattle.ak_queue.specs.Lists.{QueueView, is_day_learning, is_due_review, is_learning, is_soon}
use Rattle.ak_queue.specs.Orders.{NewKey, parts_cmp}
use Rattle.ak_queue.specs.declared.day_queues.DayQueue.{DayQueue}
use Rattle.ak_queue.specs.declared.limits.DeckLimits.{DeckLimits}
use Rattle.ak_queue.specs.declared.nexts.Mixing.{Mixing}
use Rattle.std.specs.declared.cmp.Ordering.TheVariants.{Less}
use Rattle.ak_base.specs.Paths.{parts_of}
use Rattle.ak_queue.specs.Burials.{restored_queue}
use Rattle.ak_queue.specs.Limits.{remaining}
use Rattle.ak_queue.specs.Nexts.{next_of, is_time_for_new}

-- new cards among reviews, and reviews before cards that are learned over days
abbrev pub mixed : Mixing
mixed = record { spread = pos 0; day_learn_first = false }

-- a queue of new cards, cards that are learned over days, and reviews
abbrev pub queue_with : List ℤ → List ℤ → List ℤ → DayQueue
queue_with new_cards over_days reviews = record { learning = []; soon = []; new_cards = new_cards; day_learning = over_days; reviews = reviews }

-- 2 new cards, 1 and 2, and 4 reviews, 3 to 6
abbrev pub two_and_four : DayQueue
two_and_four = queue_with (pos 1 ∷ pos 2 ∷ []) [] (pos 3 ∷ pos 4 ∷ pos 5 ∷ pos 6 ∷ [])

-- 4 new cards, 1 to 4, and a review, 5
abbrev pub four_and_one : DayQueue
four_and_one = queue_with (pos 1 ∷ pos 2 ∷ pos 3 ∷ pos 4 ∷ []) [] (pos 5 ∷ [])

-- 2 new cards, 1 and 2, a card that is learned over days, 3, and no review
abbrev pub two_and_none : DayQueue
two_and_none = queue_with (pos 1 ∷ pos 2 ∷ []) (pos 3 ∷ []) []

-- a card of a kind and a queue, with a due
abbrev pub card_with : ℤ → ℤ → ℤ → Card
card_with kind queue due = record {
  id = pos 7;
  nid = pos 1;
  did = pos 1;
  ord = pos 0;
  stamp = pos 0;
  usn = pos 0;
  kind = kind;
  queue = queue;
  due = due;
  ivl = pos 0;
  factor = pos 0;
  reps = pos 0;
  lapses = pos 0;
  left = pos 0;
  odue = pos 0;
  odid = pos 0;
  flags = pos 0;
  extra = [];
}

-- second 1,000 of day 5, and learning cards may come 20 seconds ahead
abbrev pub day_five : QueueView
day_five = record { day = record { now = pos 1_000; number = pos 5; cutoff = pos 2_000 }; collapse = pos 20; root = []; path_of_deck = λ id. None }

-- the path `P`, a deck at the top
abbrev pub top : Parts
top = codes "P" ∷ []

-- the path `P::a`, a deck below `P`
abbrev pub a : Parts
a = codes "P" ∷ codes "a" ∷ []

-- the path `P::b`, a deck below `P`
abbrev pub b : Parts
b = codes "P" ∷ codes "b" ∷ []

-- a deck takes so many new cards
abbrev pub takes : Parts → ℕ → DeckLimits
takes parts count = record { parts = parts; new_cards = count; reviews = 0 }

-- 2 new cards in `P::a`, and 5 in `P::b`
abbrev pub seven_new : List NewKey
seven_new =
    (a, pos 1, pos 1) ∷ (a, pos 1, pos 2) ∷ (b, pos 1, pos 3) ∷ (b, pos 1, pos 4) ∷ (b, pos 1, pos 5) ∷ (b, pos 1, pos 6) ∷ (b, pos 1, pos 7) ∷ []

-- the ids of those that are taken
abbrev pub taken_ids : List DeckLimits → List NewKey → List ℤ
taken_ids limits cards = map (λ (key : NewKey). key.2) (first_choice limits cards)

-- the count of a day
abbrev pub counted_on : ℤ → ℤ → Count
counted_on day count = record { day = day; count = count }

-- ---- what the rules say in numbers
-- with 2 new cards and 4 reviews a new card comes after each third answer, and before the first answer none does
pub new_cards_come_among_reviews-none : next_of mixed 0 two_and_four ≡ Some (pos 3)
unfolding is_time_for_new
new_cards_come_among_reviews-none = refl

pub new_cards_come_among_reviews-one : next_of mixed 1 two_and_four ≡ Some (pos 3)
unfolding is_time_for_new
new_cards_come_among_reviews-one = refl

pub new_cards_come_among_reviews-two : next_of mixed 2 two_and_four ≡ Some (pos 3)
unfolding is_time_for_new
new_cards_come_among_reviews-two = refl

pub new_cards_come_among_reviews-three : next_of mixed 3 two_and_four ≡ Some (pos 1)
unfolding is_time_for_new
new_cards_come_among_reviews-three = refl

pub new_cards_come_among_reviews-four : next_of mixed 4 two_and_four ≡ Some (pos 3)
unfolding is_time_for_new
new_cards_come_among_reviews-four = refl

-- while reviews are left at least every second card is one; without reviews each is a new one
pub reviews_come_at_least_each_second_time-review : next_of mixed 1 four_and_one ≡ Some (pos 5)
unfolding is_time_for_new
reviews_come_at_least_each_second_time-review = refl

pub reviews_come_at_least_each_second_time-then_new : next_of mixed 2 four_and_one ≡ Some (pos 1)
unfolding is_time_for_new
reviews_come_at_least_each_second_time-then_new = refl

pub reviews_come_at_least_each_second_time-no_review : next_of mixed 1 two_and_none ≡ Some (pos 1)
unfolding is_time_for_new
reviews_come_at_least_each_second_time-no_review = refl

-- the limits of a deck and of those above it bind together
pub limits_bind_together-whole : taken_ids (takes top 3 ∷ takes a 2 ∷ takes b 5 ∷ []) seven_new ≡ pos 1 ∷ pos 2 ∷ pos 3 ∷ []
limits_bind_together-whole = refl

pub limits_bind_together-a_first : taken_ids (takes top 3 ∷ takes a 1 ∷ takes b 5 ∷ []) seven_new ≡ pos 1 ∷ pos 3 ∷ pos 4 ∷ []
limits_bind_together-a_first = refl

pub limits_bind_together-none : taken_ids (takes top 0 ∷ takes a 2 ∷ takes b 5 ∷ []) seven_new ≡ []
limits_bind_together-none = refl

-- paths go part by part: `P::b::c` comes before `P::b!`
pub paths_go_part_by_part : parts_cmp (parts_of (codes "P::b::c")) (parts_of (codes "P::b!")) ≡ Less
paths_go_part_by_part = refl

-- a count of another day says nothing, and more than the limit leaves nothing
pub counts_are_of_the_day-yesterday : remaining (pos 20) day_five.day (counted_on (pos 4) (pos 5)) ≡ 20
counts_are_of_the_day-yesterday = refl

pub counts_are_of_the_day-today : remaining (pos 20) day_five.day (counted_on (pos 5) (pos 5)) ≡ 15
counts_are_of_the_day-today = refl

pub counts_are_of_the_day-over : remaining (pos 20) day_five.day (counted_on (pos 5) (pos 25)) ≡ 0
counts_are_of_the_day-over = refl

-- a learning card whose second has not passed comes soon, up to `collapse` seconds ahead
pub learning_cards_come_in_time-due : is_learning day_five (card_with (pos 1) (pos 1) (pos 999)) ≡ true
learning_cards_come_in_time-due = refl

pub learning_cards_come_in_time-now : is_learning day_five (card_with (pos 1) (pos 1) (pos 1_000)) ≡ false
learning_cards_come_in_time-now = refl

pub learning_cards_come_in_time-soon : is_soon day_five (card_with (pos 1) (pos 1) (pos 1_000)) ≡ true
learning_cards_come_in_time-soon = refl

pub learning_cards_come_in_time-last : is_soon day_five (card_with (pos 1) (pos 1) (pos 1_019)) ≡ true
learning_cards_come_in_time-last = refl

pub learning_cards_come_in_time-later : is_soon day_five (card_with (pos 1) (pos 1) (pos 1_020)) ≡ false
learning_cards_come_in_time-later = refl

-- reviews and cards that are learned over days come on their day
pub cards_come_on_their_day-review : is_due_review day_five (card_with (pos 2) (pos 2) (pos 5)) ≡ true
cards_come_on_their_day-review = refl

pub cards_come_on_their_day-no_review : is_due_review day_five (card_with (pos 2) (pos 2) (pos 6)) ≡ false
cards_come_on_their_day-no_review = refl

pub cards_come_on_their_day-over_days : is_day_learning day_five (card_with (pos 1) (pos 3) (pos 5)) ≡ true
cards_come_on_their_day-over_days = refl

pub cards_come_on_their_day-none_over_days : is_day_learning day_five (card_with (pos 1) (pos 3) (pos 6)) ≡ false
cards_come_on_their_day-none_over_days = refl

-- a buried card goes back to the queue of its kind; in learning by whether its due is a second or a day
pub buried_cards_go_back-second : restored_queue (card_with (pos 3) (pos 0) (pos 1_700_000_620)) ≡ pos 1
buried_cards_go_back-second = refl

pub buried_cards_go_back-day : restored_queue (card_with (pos 3) (pos 0) (pos 12)) ≡ pos 3
buried_cards_go_back-day = refl

pub buried_cards_go_back-last_day : restored_queue (card_with (pos 1) (pos 0) (pos 1_000_000_000)) ≡ pos 3
buried_cards_go_back-last_day = refl

pub buried_cards_go_back-first_second : restored_queue (card_with (pos 1) (pos 0) (pos 1_000_000_001)) ≡ pos 1
buried_cards_go_back-first_second = refl

pub buried_cards_go_back-new : restored_queue (card_with (pos 0) (pos 2) (pos 12)) ≡ pos 0
buried_cards_go_back-new = refl

pub buried_cards_go_back-review : restored_queue (card_with (pos 2) (pos 0) (pos 12)) ≡ pos 2
buried_cards_go_back-review = refl
