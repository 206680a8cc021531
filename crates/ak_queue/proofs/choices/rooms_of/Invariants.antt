use Rattle.std.proofs.Common.{◌≡◌, ◌++◌, drop}
use Rattle.ak_queue.specs.Rooms.{rooms_of}
use Rattle.ak_queue.proofs.choices.rooms_of.Given as goal

-- the rooms so far, and those of the decks that are left, are all
abbrev pub invariant-loop-limit : goal.invariant-loop-limit
invariant-loop-limit l = l.rooms.items ++ rooms_of (drop l.limit-index l.limits) ≡ rooms_of l.limits
