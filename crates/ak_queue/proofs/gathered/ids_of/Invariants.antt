use Rattle.std.proofs.Common.{◌≡◌, ◌++◌, map}
use Rattle.ak_queue.specs.Orders.{DueKey}
use Rattle.ak_queue.proofs.gathered.ids_of.Given as goal

-- the ids so far, and those that are left, are all
abbrev pub invariant-loop-id : goal.invariant-loop-id
invariant-loop-id l = l.ids ++ map (λ (key : DueKey). key.1) l.id-iterator ≡ map (λ (key : DueKey). key.1) l.keys.keys
