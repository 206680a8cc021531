-- The queue of a deck on a day.
use Rattle.std.specs.Prelude.{ℕ, ℤ, pos, ◌+◌, Bool, ◌&&◌, ◌==◌, min, if◌then◌else◌, List, map, length, take, Option, Some, None}
use Rattle.std.specs.Option.{option_map}
use Rattle.ak_base.specs.Paths.{parts_of}
use Rattle.ak_base.specs.declared.cards.Card.{Card}
use Rattle.ak_base.specs.declared.days.Day.{Day}
use Rattle.ak_base.specs.declared.decks.Deck.{Deck}
use Rattle.ak_base.specs.declared.heads.Head.{Head}
use Rattle.ak_keep.specs.Collections.{Holding}
use Rattle.ak_keep.specs.Lookups.{deck_at, decks_in}
use Rattle.ak_queue.specs.Choices.{first_choice}
use Rattle.ak_queue.specs.Homes.{cards_in, parts_at}
use Rattle.ak_queue.specs.Limits.{all_limits, limits_of, most_reviews}
use Rattle.ak_queue.specs.Lists.{QueueView, by_due, new_cards, is_learning, is_soon, is_day_learning, is_due_review}
use Rattle.ak_queue.specs.Orders.{DueKey, NewKey}
use Rattle.ak_queue.specs.declared.gathered.Gathered.{Gathered}
use Rattle.ak_queue.specs.declared.limits.DeckLimits.{DeckLimits}
use Rattle.ak_queue.specs.declared.day_queues.Counts.{Counts}
use Rattle.ak_queue.specs.declared.day_queues.DayQueue.{DayQueue}
use Rattle.ak_queue.specs.declared.queues.LookAhead.{LookAhead}

-- how many seconds ahead a learning card may come; without a head none may
abbrev pub collapse_in : Option Head → ℤ
collapse_in None = pos 0
collapse_in (Some head) = head.conf.collapse

-- what the lists of a deck look at on a day
abbrev pub scope_of : Holding → Day → Deck → QueueView
scope_of h day deck = record { day = day; collapse = collapse_in h.head; root = parts_of deck.name; path_of_deck = parts_at (decks_in h.rows) }

-- the queue that these cards make under these limits: `own` are those of the chosen deck
abbrev pub queue_under : QueueView → DeckLimits → List DeckLimits → List Card → DayQueue
queue_under s own limits cards = record {
  learning = by_due is_learning s cards;
  soon = by_due is_soon s cards;
  new_cards = map (λ (key : NewKey). key.2) (first_choice limits (new_cards s cards));
  day_learning = by_due is_day_learning s cards;
  reviews = take (most_reviews s.root own limits) (by_due is_due_review s cards);
}

-- the queue of a deck that is held
abbrev pub queue_of_deck : Holding → Day → Deck → DayQueue
queue_of_deck h day deck =
    queue_under (scope_of h day deck) (limits_of h.rows day deck) (all_limits h.rows day (parts_of deck.name) (decks_in h.rows)) (cards_in h.rows)

-- the queue of the deck of an id, None if it is not held
abbrev pub queue_of : Holding → Day → ℤ → Option DayQueue
queue_of h day id = option_map (queue_of_deck h day) (deck_at h.rows id)

-- how many cards a queue has: those in learning are those that are due, soon due, and learned over days
abbrev pub counts_of : DayQueue → Counts
counts_of q = record {
  new_cards = length q.new_cards;
  learning = (length q.learning + length q.soon) + length q.day_learning;
  reviews = length q.reviews;
}

-- how many cards the queue of the deck of an id has, None if it is not held
abbrev pub counts_in : Holding → Day → ℤ → Option Counts
counts_in h day id = option_map counts_of (queue_of h day id)

-- ---- what was read
-- the moment, and how far a queue of it is asked for
abbrev pub ahead_in : Day → Option Head → Bool → LookAhead
ahead_in day head for_next = record { day = day; collapse = collapse_in head; for_next = for_next }

-- what the lists look at, by the decks that were read
abbrev pub scope_at : LookAhead → Deck → List Deck → QueueView
scope_at m deck decks = record { day = m.day; collapse = m.collapse; root = parts_of deck.name; path_of_deck = parts_at decks }

-- how many of at most so many reviews are looked for: for the next card only one, if no new card is taken
abbrev pub needed_reviews : Bool → ℕ → List ℤ → ℕ
needed_reviews for_next most new_cards = if for_next && (length new_cards == 0) then min most 1 else most

-- the queue, as far as it is asked for: for the next card only with its first review, if it has no new cards
abbrev pub queue_asked : Bool → DayQueue → DayQueue
queue_asked for_next q = if for_next && (length q.new_cards == 0) then record q { reviews = take 1 q.reviews } else q

-- the queue of a deck, by what it looks at and by the decks that are held
abbrev pub queue_within : Holding → QueueView → Deck → List Deck → DayQueue
queue_within h s deck decks = queue_under s (limits_of h.rows s.day deck) (all_limits h.rows s.day s.root decks) (cards_in h.rows)

-- the queue of a deck that is held, as far as it is asked for
abbrev pub queue_ahead : Holding → LookAhead → Deck → DayQueue
queue_ahead h ahead deck = queue_asked ahead.for_next (queue_within h (scope_at ahead deck (decks_in h.rows)) deck (decks_in h.rows))

-- the queue of the deck of an id, as far as it is asked for; None if it is not held
abbrev pub queue_ahead_of : Holding → LookAhead → ℤ → Option DayQueue
queue_ahead_of h ahead id = option_map (queue_ahead h ahead) (deck_at h.rows id)

-- the queue of what was gathered, with these new cards
abbrev pub queue_by : Gathered → List ℤ → DayQueue
queue_by g new_cards = record {
  learning = map (λ (key : DueKey). key.1) g.learning.keys;
  soon = map (λ (key : DueKey). key.1) g.soon.keys;
  new_cards = new_cards;
  day_learning = map (λ (key : DueKey). key.1) g.day_learning.keys;
  reviews = take g.most (map (λ (key : DueKey). key.1) g.reviews.keys);
}
