use Rattle.std.proofs.Common.{length, ◌-◌, ◌≡◌, ◌≤◌, false, drop}
use Rattle.ak_search.specs.Matching.{ended}
use Rattle.ak_search.proofs.matching.may_end.Given as goal

abbrev pub invariant-loop-place : goal.invariant-loop-place
invariant-loop-place l =
    record {
      within : l.place ≤ length l.pattern;
      whole : ended l.skipped (drop l.place l.row) (drop l.place l.pattern) ≡ ended false l.row l.pattern;
    }

abbrev pub decreases-loop-place : goal.decreases-loop-place
decreases-loop-place l = length l.pattern - l.place
