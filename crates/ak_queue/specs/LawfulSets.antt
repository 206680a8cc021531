-- Which sets of new cards are lawful, in the words of a collection.
use Rattle.std.specs.Prelude.{◌≡◌, Bool, map, filter, ◌≤◌, ◌⊎◌, ℕ, IsTrue, List, length}
use Rattle.std.specs.List.{AllByRecursion}
use Rattle.ak_base.specs.Paths.{parts_of, is_in_subtree}
use Rattle.ak_base.specs.declared.days.Day.{Day}
use Rattle.ak_base.specs.declared.decks.Deck.{Deck}
use Rattle.ak_keep.specs.Collections.{Holding, Rows}
use Rattle.ak_keep.specs.Lookups.{decks_in, options_of_deck}
use Rattle.ak_queue.specs.Choices.{count_under, first_choice}
use Rattle.ak_queue.specs.Homes.{cards_in}
use Rattle.ak_queue.specs.Limits.{all_limits, new_per_day, remaining}
use Rattle.ak_queue.specs.Lists.{new_cards}
use Rattle.ak_queue.specs.Orders.{NewKey}
use Rattle.ak_queue.specs.Queues.{queue_of_deck, scope_of}

-- how many new cards a deck takes on a day
abbrev pub new_limit : Rows → Day → Deck → ℕ
new_limit held day d = remaining (new_per_day (options_of_deck held d)) day d.new_today

-- the limit of a deck binds the queue of the chosen one: it is in the chosen deck's subtree, or the chosen deck is in its
abbrev pub Binds : Deck → Deck → Type 0
Binds chosen d = IsTrue (is_in_subtree chosen.name d.name) ⊎ IsTrue (is_in_subtree d.name chosen.name)

-- of each deck whose limit binds, a set of new cards has at most that limit in the deck's subtree
abbrev pub IsLawfulChoice : Rows → Day → Deck → List NewKey → Type 0
IsLawfulChoice held day chosen cards =
    AllByRecursion (λ (d : Deck). Binds chosen d → count_under (parts_of d.name) cards ≤ new_limit held day d) (decks_in held)

-- the new cards of a deck's subtree, in their order
abbrev pub new_candidates : Holding → Day → Deck → List NewKey
new_candidates h day deck = new_cards (scope_of h day deck) (cards_in h.rows)

-- those that its queue takes
abbrev pub new_choice : Holding → Day → Deck → List NewKey
new_choice h day deck = first_choice (all_limits h.rows day (parts_of deck.name) (decks_in h.rows)) (new_candidates h day deck)

-- the queue of a deck takes the cards of its choice
abbrev pub TakesChoice : Holding → Day → Deck → Type 0
TakesChoice h day deck = (queue_of_deck h day deck).new_cards ≡ map (λ (key : NewKey). key.2) (new_choice h day deck)

-- some of the new cards, as one picks them
abbrev pub picked_of : (NewKey → Bool) → Holding → Day → Deck → List NewKey
picked_of pick h day deck = filter pick (new_candidates h day deck)

-- if the new cards that one picks are a lawful set, the queue of the deck takes at least as many
abbrev pub IsNoLarger : (NewKey → Bool) → Holding → Day → Deck → Type 0
IsNoLarger pick h day deck =
    IsLawfulChoice h.rows day deck (picked_of pick h day deck) → length (picked_of pick h day deck) ≤ length (queue_of_deck h day deck).new_cards
