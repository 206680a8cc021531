use Rattle.std.proofs.Common.{◌≡◌, ◌≤◌, ◌++◌, length, map}
use Rattle.ak_queue.specs.Orders.{DueKey}
use Rattle.ak_queue.proofs.gathered.first_ids.Given as goal

-- the ids so far, and those that are left, are all, and there are not too many
abbrev pub invariant-loop-id : goal.invariant-loop-id
invariant-loop-id l = record {
  so_far : l.ids ++ map (λ (key : DueKey). key.1) l.id-iterator ≡ map (λ (key : DueKey). key.1) l.keys.keys;
  few : length l.ids ≤ l.most;
}
