-- The cards that a filtered deck is built of, and their order.
use Rattle.std.specs.Prelude.{◌≡◌, ℕ, ℤ, pos, negsuc, ◌-ℤ◌, Bool, ◌&&◌, ◌||◌, not, if◌then◌else◌, List, map, take, Option, Some, None}
use Rattle.std.specs.List.{filter_map}
use Rattle.std.specs.Ordering.{int_cmp, int_eq, ordering_then}
use Rattle.std.specs.declared.cmp.Ordering.{Ordering}
use Rattle.ak_base.specs.declared.cards.Card.{Card}
use Rattle.ak_base.specs.declared.days.Day.{Day}
use Rattle.ak_filtered.specs.HomeDecks.{filtered_at, is_in_filtered}
use Rattle.ak_filtered.specs.declared.plans.Order.{Order}
use Rattle.ak_filtered.specs.declared.plans.Order.TheVariants as orders
use Rattle.ak_filtered.specs.declared.plans.Plan.{Plan}
use Rattle.ak_keep.specs.Collections.{Rows}
use Rattle.ak_queue.specs.Orders.{in_order}
use Rattle.ak_search.specs.CardFacts.{seen}
use Rattle.ak_search.specs.Holds.{holds}
use Rattle.ak_search.specs.Meanings.{meets}
use Rattle.ak_search.specs.Trees.{Tree}

-- ---- orders
-- where a card stands in an order: two numbers, the first of which decides before the second, and the card's id, which decides last. A
-- number that comes the greatest first counts down from -1
abbrev pub CardKey : Type 0
CardKey = ℤ × ℤ × ℤ

-- where this card stands
abbrev pub key_of : Order → Card → CardKey
key_of orders.ShortestInterval card = (card.ivl, pos 0, card.id)
key_of orders.LongestInterval card = (negsuc 0 -ℤ card.ivl, pos 0, card.id)
key_of orders.MostLapses card = (negsuc 0 -ℤ card.lapses, pos 0, card.id)
key_of orders.OldestNote card = (card.nid, card.ord, card.id)
key_of orders.Due card = (card.due, pos 0, card.id)
key_of orders.NewestNote card = (negsuc 0 -ℤ card.nid, card.ord, card.id)

-- the order of these places
abbrev pub key_cmp : CardKey → CardKey → Ordering
key_cmp one other = ordering_then (ordering_then (int_cmp one.0 other.0) (int_cmp one.1 other.1)) (int_cmp one.2 other.2)

-- ---- candidates
-- whether a card may move into a filtered deck: a new one or a review, at home, and its deck is not filtered
abbrev pub may_move : (ℤ → Option Bool) → Card → Bool
may_move flags card =
    (int_eq card.queue (pos 0) || int_eq card.queue (pos 2)) && int_eq card.odid (pos 0) && not (is_in_filtered flags card)

-- whether a card is a candidate: it may move, and meets the search by what is seen of it in these rows
abbrev pub is_candidate : Rows → Day → Tree → Card → Bool
is_candidate held day tree card = may_move (filtered_at held) card && meets (holds day (seen held card)) tree

-- where a candidate stands
abbrev pub candidate_key : Rows → Day → Tree → Order → Card → Option CardKey
candidate_key held day tree order card = if is_candidate held day tree card then Some (key_of order card) else None

-- the candidates among these cards, in the order
abbrev pub candidates : Rows → Day → Tree → Order → List Card → List CardKey
candidates held day tree order cards = in_order key_cmp (filter_map (candidate_key held day tree order) cards)

-- the ids of the first of them, cut at the plan's limit
abbrev pub first_cards : Plan → List CardKey → List ℤ
first_cards plan keys = take plan.limit (map (λ (key : CardKey). key.2) keys)
