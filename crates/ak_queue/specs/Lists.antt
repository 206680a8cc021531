-- Which cards the lists of a day hold, before limits.
use Rattle.std.specs.Prelude.{ℤ, pos, ◌+ℤ◌, Bool, ◌&&◌, not, if◌then◌else◌, int_lt, List, map, Option, Some, None}
use Rattle.std.specs.List.{filter_map}
use Rattle.std.specs.Option.{option_and_then}
use Rattle.std.specs.Ordering.{int_eq}
use Rattle.ak_base.specs.declared.cards.Card.{Card}
use Rattle.ak_base.specs.declared.days.Day.{Day}
use Rattle.ak_queue.specs.Homes.{Parts, path_of_card, leads_to}
use Rattle.ak_queue.specs.Orders.{DueKey, NewKey, due_cmp, new_cmp, in_order}

-- what a day's lists look at: the moment, how many seconds ahead a learning card may come, the path of the chosen deck, and
-- the paths of the decks that are held, by their ids
pub record QueueView : Type 0 where
  pub day : Day
  pub collapse : ℤ
  pub root : Parts
  pub path_of_deck : ℤ → Option Parts

-- whether a card lies in the chosen deck or below it
abbrev pub is_inside : QueueView → Card → Bool
is_inside s c = leads_to s.root (path_of_card s.path_of_deck c)

-- whether a day has come
abbrev pub has_come : QueueView → ℤ → Bool
has_come s number = not (int_lt s.day.number number)

-- learned today, and the second of its step has come
abbrev pub is_learning : QueueView → Card → Bool
is_learning s c = int_eq c.queue (pos 1) && int_lt c.due s.day.now

-- learned today, and the second of its step comes soon
abbrev pub is_soon : QueueView → Card → Bool
is_soon s c = int_eq c.queue (pos 1) && (not (int_lt c.due s.day.now) && int_lt c.due (s.day.now +ℤ s.collapse))

-- learned over days, and the day of its step has come
abbrev pub is_day_learning : QueueView → Card → Bool
is_day_learning s c = int_eq c.queue (pos 3) && has_come s c.due

-- a review whose day has come
abbrev pub is_due_review : QueueView → Card → Bool
is_due_review s c = int_eq c.queue (pos 2) && has_come s c.due

-- a new card
abbrev pub is_new : QueueView → Card → Bool
is_new s c = int_eq c.queue (pos 0)

-- where a card waits, if it lies inside and passes
abbrev pub due_key : (QueueView → Card → Bool) → QueueView → Card → Option DueKey
due_key test s c = if is_inside s c && test s c then Some (c.due, c.id) else None

-- where a new card that may be held waits, if it lies inside
abbrev pub key_under : Parts → Card → Option Parts → Option NewKey
key_under root c home = option_and_then (λ parts. if leads_to root (Some parts) then Some (parts, c.due, c.id) else None) home

-- where a new card waits, if the card is one and lies inside
abbrev pub new_key : QueueView → Card → Option NewKey
new_key s c = if is_new s c then key_under s.root c (path_of_card s.path_of_deck c) else None

-- the ids of the cards inside that pass, by due, then by id
abbrev pub by_due : (QueueView → Card → Bool) → QueueView → List Card → List ℤ
by_due test s cards = map (λ (key : DueKey). key.1) (in_order due_cmp (filter_map (due_key test s) cards))

-- the new cards inside, by the path of their deck, then by due, then by id
abbrev pub new_cards : QueueView → List Card → List NewKey
new_cards s cards = in_order new_cmp (filter_map (new_key s) cards)
