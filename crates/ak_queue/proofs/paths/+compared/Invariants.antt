use Rattle.std.proofs.Common.{length}
use Rattle.ak_queue.proofs.paths.+compared.Given as goal

-- the parts that are left
abbrev pub decreases-compared : goal.decreases-compared
decreases-compared l = length l.parts.now
