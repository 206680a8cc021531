use Rattle.std.proofs.Common.{◌≡◌, length}
use Rattle.ak_search.specs.Runs.{run_behind}
use Rattle.ak_search.proofs.matching.run.Given as goal

-- what the items that are left leave is what all of them do
abbrev pub invariant-loop-item : goal.invariant-loop-item
invariant-loop-item l = run_behind l.items l.rest ≡ run_behind l.pattern l.letters

abbrev pub decreases-loop-item : goal.decreases-loop-item
decreases-loop-item l = length l.items
