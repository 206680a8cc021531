use Rattle.std.proofs.Common.{length}
use Rattle.ak_search.proofs.patterns.+are_letters.Given as goal

abbrev pub decreases-are_letters : goal.decreases-are_letters
decreases-are_letters l = length l.pattern.now
