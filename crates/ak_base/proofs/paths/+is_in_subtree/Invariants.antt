use Rattle.std.proofs.Common.{length}
use Rattle.ak_base.proofs.paths.+is_in_subtree.Given as goal

abbrev pub decreases-is_in_subtree : goal.decreases-is_in_subtree
decreases-is_in_subtree l = length l.path.now
