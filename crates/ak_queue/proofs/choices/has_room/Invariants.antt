use Rattle.std.proofs.Common.{◌≡◌, length}
use Rattle.ak_queue.specs.Rooms.{has_room}
use Rattle.ak_queue.proofs.choices.has_room.Given as goal

-- the decks that are left decide
abbrev pub invariant-loop-limit : goal.invariant-loop-limit
invariant-loop-limit l = has_room l.limits l.rooms l.path ≡ has_room l.fn.limits l.fn.rooms l.path

abbrev pub decreases-loop-limit : goal.decreases-loop-limit
decreases-loop-limit l = length l.limits
