use Rattle.std.proofs.Common.{◌≡◌, length, drop}
use Rattle.ak_search.specs.Matching.{advanced_by}
use Rattle.ak_search.proofs.matching.advance_by.Given as goal

abbrev pub invariant-loop-letter : goal.invariant-loop-letter
invariant-loop-letter l =
    record {
      size : length l.row ≡ length l.fn.row;
      whole : advanced_by (drop l.letter-index l.letters) l.row l.pattern ≡ advanced_by l.letters l.fn.row l.pattern;
    }
