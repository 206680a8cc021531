use Rattle.std.proofs.Common.{◌≡◌, ◌++◌, length}
use Rattle.ak_queue.specs.Rooms.{less_one}
use Rattle.ak_queue.proofs.choices.less_one.Given as goal

-- the rooms so far, and those of the decks that are left, are all
abbrev pub invariant-loop-limit : goal.invariant-loop-limit
invariant-loop-limit l = l.left.items ++ less_one l.limits l.rooms l.path ≡ less_one l.fn.limits l.fn.rooms l.path

abbrev pub decreases-loop-limit : goal.decreases-loop-limit
decreases-loop-limit l = length l.limits
