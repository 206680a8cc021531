-- What the lists of a day look at, as it was read.
use Rattle.std.specs.Prelude.{◌≡◌, ℤ, List, [], ◌∷◌}
use Rattle.std.specs.BTreeMap.{BTreeMap, get}
use Rattle.std.specs.Option.{option_or}
use Rattle.std.specs.Ordering.{int_cmp}
use Rattle.ak_base.specs.declared.decks.Deck.{Deck}
use Rattle.ak_keep.specs.Collections.{Holding}
use Rattle.ak_queue.specs.Homes.{Parts, cards_in, parts_at}
use Rattle.ak_queue.specs.Limits.{all_limits}
use Rattle.ak_queue.specs.Lists.{QueueView}
use Rattle.ak_queue.specs.Queues.{queue_asked, queue_under}
use Rattle.ak_queue.specs.declared.day_queues.DayQueue.{DayQueue}
use Rattle.ak_queue.specs.declared.limits.DeckLimits.{DeckLimits}
use Rattle.ak_queue.specs.declared.scopes.Scope.{Scope}

-- what is seen by the paths that were read
abbrev pub scope_seen : Scope → QueueView
scope_seen s = record { day = s.day; collapse = s.collapse; root = s.root; path_of_deck = λ id. get int_cmp s.homes id }

-- the queue of the cards that are held, by what was read and as far as it is asked for
abbrev pub queue_seen : Holding → Scope → DeckLimits → List DeckLimits → DayQueue
queue_seen h s own limits = queue_asked s.for_next (queue_under (scope_seen s) own limits (cards_in h.rows))

-- what each deck takes whose limit may bind, by what was read
abbrev pub limits_seen : Holding → Scope → List Deck → List DeckLimits
limits_seen h s decks = all_limits h.rows s.day s.root decks

-- the path of a deck was added under its id, if there was none
abbrev pub AddsHome : Deck → BTreeMap ℤ Parts → BTreeMap ℤ Parts → Type 0
AddsHome deck old new = (id : ℤ) → get int_cmp new id ≡ option_or (get int_cmp old id) (parts_at (deck ∷ []) id)
