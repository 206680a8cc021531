-- What each deck still takes of new cards, kept beside the limits.
use Rattle.std.specs.Prelude.{ℕ, ◌-◌, ◌==◌, Bool, true, not, ◌&&◌, if◌then◌else◌, List, [], ◌∷◌, map}
use Rattle.ak_base.specs.Paths.{are_first_parts}
use Rattle.ak_queue.specs.Homes.{Parts}
use Rattle.ak_queue.specs.declared.limits.DeckLimits.{DeckLimits}

-- how many new cards each deck takes
abbrev pub rooms_of : List DeckLimits → List ℕ
rooms_of limits = map (λ (l : DeckLimits). l.new_cards) limits

-- whether each deck that a path is in the subtree of has room for one more
abbrev pub has_room : List DeckLimits → List ℕ → Parts → Bool
has_room [] rooms parts = true
has_room (l ∷ ls) [] parts = true
has_room (l ∷ ls) (room ∷ rooms) parts = not (room == 0 && are_first_parts l.parts parts) && has_room ls rooms parts

-- the room that a deck has after one more card of a path
abbrev pub room_after : DeckLimits → ℕ → Parts → ℕ
room_after l room parts = if are_first_parts l.parts parts then room - 1 else room

-- the room that is left after one more card of a path
abbrev pub less_one : List DeckLimits → List ℕ → Parts → List ℕ
less_one [] rooms parts = []
less_one (l ∷ ls) [] parts = []
less_one (l ∷ ls) (room ∷ rooms) parts = room_after l room parts ∷ less_one ls rooms parts
