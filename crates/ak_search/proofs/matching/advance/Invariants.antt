use Rattle.std.proofs.Common.{length, ◌-◌, ◌≡◌, ◌+◌, ◌++◌, ◌≤◌, false, take, drop}
use Rattle.ak_search.specs.Matching.{advanced}
use Rattle.ak_search.proofs.matching.advance.Given as goal

abbrev pub invariant-loop-place : goal.invariant-loop-place
invariant-loop-place l =
    record {
      within : l.place ≤ length l.pattern;
      size : length l.row ≡ length l.pattern + 1;
      whole : take l.place l.row ++ advanced l.letter l.taken l.skipped (drop l.place l.row) (drop l.place l.pattern) ≡ advanced l.letter false false l.fn.row l.pattern;
    }

abbrev pub decreases-loop-place : goal.decreases-loop-place
decreases-loop-place l = length l.pattern - l.place
