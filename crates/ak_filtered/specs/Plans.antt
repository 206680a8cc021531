-- What a filtered deck is filled by: a search, how many cards it takes at most, and in which order. A deck keeps it as the text of a
-- key of its own.
use Rattle.std.specs.Prelude.{◌≡◌, ℕ, ℤ, pos, negsuc, Bool, true, false, ◌&&◌, ◌==◌, nat_le, if◌then◌else◌, List, codes, Option, Some, None, option_and_then}
use Rattle.std.specs.Option.{option_map, option_map_or}
use Rattle.std.specs.Ordering.{int_eq}
use Rattle.serde_json.specs.Data.{Data, string, number, array, object, item, no_items, Items, Members, member, no_members}
use Rattle.serde_json.specs.Events.{items_len}
use Rattle.serde_json.specs.Find.{as_array, as_str, at, get_member, of_integer}
use Rattle.serde_json.specs.Written.{compact_text}
use Rattle.ak_base.specs.Rests.{members_of}
use Rattle.ak_filtered.specs.declared.plans.Order.{Order}
use Rattle.ak_filtered.specs.declared.plans.Order.TheVariants as orders
use Rattle.ak_filtered.specs.declared.plans.Plan.{Plan}
use Rattle.ak_json.specs.Kinds.{integer_of}

-- ---- its parts
-- the number of an order
abbrev pub order_number : Order → ℤ
order_number orders.ShortestInterval = pos 2
order_number orders.LongestInterval = pos 3
order_number orders.MostLapses = pos 4
order_number orders.OldestNote = pos 5
order_number orders.Due = pos 6
order_number orders.NewestNote = pos 7

-- the order of a number
abbrev pub order_of : ℤ → Option Order
order_of n =
    if int_eq n (pos 2) then Some orders.ShortestInterval
    else if int_eq n (pos 3) then Some orders.LongestInterval
    else if int_eq n (pos 4) then Some orders.MostLapses
    else if int_eq n (pos 5) then Some orders.OldestNote
    else if int_eq n (pos 6) then Some orders.Due
    else if int_eq n (pos 7) then Some orders.NewestNote
    else None

-- whether so many cards are a limit
abbrev pub is_limit : ℕ → Bool
is_limit n = nat_le 1 n && nat_le n 99_999

-- the limit of a number
abbrev pub limit_of : ℤ → Option ℕ
limit_of (pos n) = if is_limit n then Some n else None
limit_of (negsuc n) = None

-- the plan of a search, the number of a limit and the number of an order, if these are in their ranges
abbrev pub plan_with : List ℕ → ℤ → ℤ → Option Plan
plan_with search limit order =
    option_and_then (λ (most : ℕ). option_map (λ (by : Order). record { search = search; limit = most; order = by }) (order_of order)) (limit_of limit)

-- ---- as a deck keeps it
-- whether it is an array of so many items
abbrev pub has_items : ℕ → Data → Bool
has_items count d = option_map_or (λ (items : Items). items_len items == count) (as_array d) false

-- the plan of a list of a text and two whole numbers: the search, the limit and the order
abbrev pub plan_of_list : Data → Option Plan
plan_of_list d =
    if has_items 3 d then
    option_and_then (λ (search : List ℕ).
    option_and_then (λ (limit : ℤ).
    option_and_then (λ (order : ℤ). plan_with search limit order)
    (option_and_then integer_of (at 2 d)))
    (option_and_then integer_of (at 1 d)))
    (option_and_then as_str (at 0 d))
    else None

-- the plan of a list of exactly one such list
abbrev pub plan_of_terms : Data → Option Plan
plan_of_terms d = if has_items 1 d then option_and_then plan_of_list (at 0 d) else None

-- the plan in the key `terms`
abbrev pub plan_in : Members → Option Plan
plan_in members = option_and_then plan_of_terms (get_member (codes "terms") members)

-- the plan in the text of a deck's further keys
abbrev pub plan_of : List ℕ → Option Plan
plan_of text = option_and_then plan_in (members_of text)

-- the list of a plan
abbrev pub plan_list : Plan → Data
plan_list plan =
    array (item (string plan.search) (item (number (of_integer (pos plan.limit))) (item (number (of_integer (order_number plan.order))) no_items)))

-- the further keys of a new deck with this plan: `{"terms":[[search,limit,order]]}`
abbrev pub plan_members : Plan → Members
plan_members plan = member (codes "terms") (array (item (plan_list plan) no_items)) no_members

-- their text
abbrev pub plan_text : Plan → List ℕ
plan_text plan = compact_text (object (plan_members plan))

-- a plan's limit is in its range
abbrev pub IsPlan : Plan → Type 0
IsPlan plan = is_limit plan.limit ≡ true
