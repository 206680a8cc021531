-- How many cards a deck still takes on a day.
use Rattle.std.specs.Prelude.{ℕ, ℤ, pos, Bool, ◌&&◌, ◌||◌, not, if◌then◌else◌, List, [], ◌∷◌, map, filter, min, Option, Some, None}
use Rattle.std.specs.Int.{int_gap}
use Rattle.std.specs.Ordering.{int_eq}
use Rattle.ak_base.specs.Paths.{parts_of, are_first_parts}
use Rattle.ak_base.specs.declared.days.Day.{Day}
use Rattle.ak_base.specs.declared.decks.Count.{Count}
use Rattle.ak_base.specs.declared.decks.Deck.{Deck}
use Rattle.ak_base.specs.declared.option_groups.Options.{Options}
use Rattle.ak_keep.specs.Collections.{Rows}
use Rattle.ak_keep.specs.Lookups.{options_of_deck}
use Rattle.ak_queue.specs.Homes.{Parts}
use Rattle.ak_queue.specs.declared.limits.DeckLimits.{DeckLimits}

-- how many new cards a day takes by its options; if none are held, 20, as those that a collection opens with
abbrev pub new_per_day : Option Options → ℤ
new_per_day None = pos 20
new_per_day (Some o) = o.new_per_day

-- how many reviews a day takes by its options; if none are held, 200, as those that a collection opens with
abbrev pub reviews_per_day : Option Options → ℤ
reviews_per_day None = pos 200
reviews_per_day (Some o) = o.rev_per_day

-- how many of a kind were taken today: a count of another day says nothing
abbrev pub count_today : Day → Count → ℤ
count_today day c = if int_eq c.day day.number then c.count else pos 0

-- how many are left of a number a day, and 0 if more were taken
abbrev pub remaining : ℤ → Day → Count → ℕ
remaining per_day day c = int_gap (count_today day c) per_day

-- what a deck takes today, by these options
abbrev pub limits_by : Option Options → Day → Deck → DeckLimits
limits_by options day d = record {
  parts = parts_of d.name;
  new_cards = remaining (new_per_day options) day d.new_today;
  reviews = remaining (reviews_per_day options) day d.rev_today;
}

-- what a deck takes today
abbrev pub limits_of : Rows → Day → Deck → DeckLimits
limits_of held day d = limits_by (options_of_deck held d) day d

-- whether a path is in the subtree of the other, or the other way round
abbrev pub is_related : Parts → Parts → Bool
is_related root parts = are_first_parts root parts || are_first_parts parts root

-- what each deck takes that is in the subtree of the chosen deck, or above it
abbrev pub all_limits : Rows → Day → Parts → List Deck → List DeckLimits
all_limits held day root decks = map (limits_of held day) (filter (λ (d : Deck). is_related root (parts_of d.name)) decks)

-- whether a path is an ancestor of the other: its parts are the first ones of more
abbrev pub is_ancestor : Parts → Parts → Bool
is_ancestor above parts = are_first_parts above parts && not (are_first_parts parts above)

-- the least of numbers, and of one more
abbrev pub least : ℕ → List ℕ → ℕ
least most [] = most
least most (n ∷ ns) = least (min most n) ns

-- how many reviews the chosen deck takes: the least of its limit and of those of its ancestors
abbrev pub most_reviews : Parts → DeckLimits → List DeckLimits → ℕ
most_reviews root own limits =
    least own.reviews (map (λ (l : DeckLimits). l.reviews) (filter (λ (l : DeckLimits). is_ancestor l.parts root) limits))
