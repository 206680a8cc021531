-- Which new cards are taken: the first lawful choice along their order.
use Rattle.std.specs.Prelude.{◌≡◌, ℕ, Bool, nat_le, if◌then◌else◌, List, [], ◌∷◌, ◌++◌, filter, length}
use Rattle.std.specs.List.{list_all}
use Rattle.ak_base.specs.Paths.{are_first_parts}
use Rattle.ak_queue.specs.Homes.{Parts}
use Rattle.ak_queue.specs.Orders.{NewKey}
use Rattle.ak_queue.specs.declared.limits.DeckLimits.{DeckLimits}

-- how many of some new cards lie in a deck or below it
abbrev pub count_under : Parts → List NewKey → ℕ
count_under parts cards = length (filter (λ (card : NewKey). are_first_parts parts card.0) cards)

-- whether a deck takes as many as these of its subtree
abbrev pub keeps_limit : List NewKey → DeckLimits → Bool
keeps_limit cards l = nat_le (count_under l.parts cards) l.new_cards

-- whether a set of new cards is lawful: each deck has at most as many of them in its subtree as it takes
abbrev pub is_lawful_choice : List DeckLimits → List NewKey → Bool
is_lawful_choice limits cards = list_all (keeps_limit cards) limits

-- with those of the cards that leave the set lawful, each tested in its turn
abbrev pub chosen_after : List DeckLimits → List NewKey → List NewKey → List NewKey
chosen_after limits taken [] = taken
chosen_after limits taken (card ∷ cards) =
    if is_lawful_choice limits (taken ++ card ∷ []) then chosen_after limits (taken ++ card ∷ []) cards else chosen_after limits taken cards

-- a choice with one more card, if that leaves it lawful
abbrev pub with_next : List DeckLimits → List NewKey → NewKey → List NewKey
with_next limits taken card = if is_lawful_choice limits (taken ++ card ∷ []) then taken ++ card ∷ [] else taken

-- the first lawful choice along the order of the cards
abbrev pub first_choice : List DeckLimits → List NewKey → List NewKey
first_choice limits cards = chosen_after limits [] cards

-- the card after others is taken in its turn
abbrev pub TakesInTurn : List DeckLimits → List NewKey → NewKey → Type 0
TakesInTurn limits before card = first_choice limits (before ++ card ∷ []) ≡ with_next limits (first_choice limits before) card
