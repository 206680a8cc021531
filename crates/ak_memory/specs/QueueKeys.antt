-- The keys by which waiting cards are found, kept beside the rows.
use Rattle.std.specs.Prelude.{ℤ, Bool, false, ◌&&◌, if◌then◌else◌, Option, Some, None, List, [], ◌∷◌, ◌++◌, filter}
use Rattle.std.specs.BTreeMap.{is_at}
use Rattle.std.specs.BTreeMap.Range.{range_contains}
use Rattle.std.specs.List.{list_any}
use Rattle.std.specs.Option.{option_and_then, option_cmp, option_map, option_to_list}
use Rattle.std.specs.Ordering.{int_cmp, int_eq, ordering_then}
use Rattle.std.specs.declared.cmp.Ordering.{Ordering}
use Rattle.std.specs.declared.ops.Bound.TheVariants.{Excluded, Unbounded}
use Rattle.ak_base.specs.Names.{name_cmp}
use Rattle.ak_base.specs.declared.cards.Card.{Card}
use Rattle.ak_base.specs.declared.names.Name.{Name}
use Rattle.ak_base.specs.declared.names.Table.TheVariants as tables
use Rattle.ak_keep.specs.Lookups.{as_card}
use Rattle.ak_keep.specs.WaitingCards.{DueKey, is_due_by}
use Rattle.ak_keep.specs.declared.queue_walks.Waiting.{Waiting}
use Rattle.ak_memory.specs.Places.{row_under}
use Rattle.ak_memory.specs.declared.places.Place.{Place}
use Rattle.ak_memory.specs.declared.versions.Version.TheVariants.{Now}

-- what a waiting card is found by: its queue, its due and its name. With no due and name it comes before all cards of the queue
abbrev pub QueueKey : Type 0
QueueKey = ℤ × Option (ℤ × Name)

-- by due, then by name
abbrev pub place_cmp : ℤ × Name → ℤ × Name → Ordering
place_cmp x y = ordering_then (int_cmp x.0 y.0) (name_cmp x.1 y.1)

-- by queue, then by due, then by name
abbrev pub queue_key_cmp : QueueKey → QueueKey → Ordering
queue_key_cmp x y = ordering_then (int_cmp x.0 y.0) (option_cmp place_cmp x.1 y.1)

-- whether the key is one of these
abbrev pub has_queue_key : List QueueKey → QueueKey → Bool
has_queue_key keys key = list_any (is_at (queue_key_cmp key)) keys

-- ---- the cards that are asked for
-- a due with the name of the card of an id
abbrev pub card_place : DueKey → ℤ × Name
card_place key = (key.0, record { table = tables.Card; id = key.1 })

-- the key that they come after
abbrev pub start_of : Waiting → QueueKey
start_of w = (w.queue, option_map card_place w.past)

-- whether a key, given as its queue and its due and name, is of the queue that is asked for, and not due after the last
abbrev pub is_asked_at : Waiting → ℤ → Option (ℤ × Name) → Bool
is_asked_at w queue None = false
is_asked_at w queue (Some place) = int_eq queue w.queue && is_due_by w.last place.0

-- the same of a key
abbrev pub is_asked : Waiting → QueueKey → Bool
is_asked w key = is_asked_at w key.0 key.1

-- the card, if it waits in this queue and is due at this number
abbrev pub if_due_at : ℤ → ℤ → Card → Option Card
if_due_at queue due c = if int_eq c.queue queue && int_eq c.due due then Some c else None

-- the card that is held and waits in a queue at this place
abbrev pub card_waiting : List (Name × Place) → ℤ → Option (ℤ × Name) → Option Card
card_waiting places queue None = None
card_waiting places queue (Some place) = option_and_then (if_due_at queue place.0) (option_and_then as_card (row_under Now places place.1))

-- the card of a key, if it is held and waits there
abbrev pub card_of_key : List (Name × Place) → QueueKey → Option Card
card_of_key places key = card_waiting places key.0 key.1

-- the cards of the keys up to the first that is not asked for
abbrev pub queue_run : Waiting → List (Name × Place) → List QueueKey → List Card
queue_run w places [] = []
queue_run w places (key ∷ keys) = if is_asked w key then option_to_list (card_of_key places key) ++ queue_run w places keys else []

-- the keys after the one that the cards come after
abbrev pub keys_after : QueueKey → List QueueKey → List QueueKey
keys_after start keys = filter (range_contains queue_key_cmp (Excluded start) Unbounded) keys
