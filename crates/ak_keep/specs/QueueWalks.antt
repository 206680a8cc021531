-- A walk over the cards that wait in a queue, page by page.
use Rattle.std.specs.Prelude.{ℕ, suc, pos, ◌+◌, ◌*◌, ◌^◌, Bool, true, not, ◌&&◌, nat_lt, if◌then◌else◌, Option, Some, None, List, length}
use Rattle.std.specs.Int.{int_gap}
use Rattle.ak_base.specs.declared.cards.Card.{Card}
use Rattle.ak_keep.specs.WaitingCards.{DueKey, last_place, waits}
use Rattle.ak_keep.specs.declared.queue_walks.QueueWalk.{QueueWalk}

-- whether a card is still to come
abbrev pub is_to_come : QueueWalk → Card → Bool
is_to_come walk c = not walk.done && waits walk.waiting c

-- the walk past the cards of a page: it ends with fewer of them than the page has room for
abbrev pub passed : ℕ → List Card → QueueWalk → QueueWalk
passed limit cards walk =
    if nat_lt (length cards) limit then record walk { done = true }
    else record walk { waiting = record walk.waiting { past = last_place walk.waiting.past cards } }

-- at most this many places come after one
abbrev pub places_after : Option DueKey → ℕ
places_after None = 2 ^ 130
places_after (Some key) = int_gap key.0 (pos (2 ^ 63)) * 2 ^ 65 + int_gap key.1 (pos (2 ^ 63))

-- no walk has more pages ahead than this
abbrev pub most_pages : QueueWalk → ℕ
most_pages walk = if walk.done then 0 else suc (places_after walk.waiting.past)
