use Rattle.std.proofs.Common.{length}
use Rattle.ak_queue.proofs.paths.+are_first_parts.Given as goal

-- the parts that are left
abbrev pub decreases-are_first_parts : goal.decreases-are_first_parts
decreases-are_first_parts l = length l.roots.now
