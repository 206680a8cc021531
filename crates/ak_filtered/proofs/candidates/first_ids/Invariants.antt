use Rattle.std.proofs.Common.{◌≡◌, ◌≤◌, ◌++◌, length, map}
use Rattle.ak_filtered.specs.Candidates.{CardKey}
use Rattle.ak_filtered.proofs.candidates.first_ids.Given as goal

-- the ids so far, and those that are left, are all, and there are not too many
abbrev pub invariant-loop-id : goal.invariant-loop-id
invariant-loop-id l = record {
  so_far : l.ids ++ map (λ (key : CardKey). key.2) l.id-iterator ≡ map (λ (key : CardKey). key.2) l.keys.keys;
  few : length l.ids ≤ l.most;
}
