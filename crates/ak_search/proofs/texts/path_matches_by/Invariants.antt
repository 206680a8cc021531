use Rattle.std.proofs.Common.{◌≡◌, ◌+◌, length}
use denote.Text.{Utf8}
use denote.Shadow.{shadow}
use Rattle.ak_search.proofs.Levels.{DecidesFrom}
use Rattle.ak_search.proofs.texts.path_matches_by.Given as goal

-- the names that end at the parts that are left decide
abbrev pub invariant-loop-level : goal.invariant-loop-level
invariant-loop-level l = record {
  utf8 : shadow (Utf8 l.rest);
  size : length l.row ≡ length l.pattern + 1;
  decides : DecidesFrom l.pattern l.row l.rest l.name;
}

abbrev pub decreases-loop-level : goal.decreases-loop-level
decreases-loop-level l = length l.rest
