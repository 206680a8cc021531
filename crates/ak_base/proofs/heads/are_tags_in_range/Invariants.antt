use Rattle.std.proofs.Common.{length}
use Rattle.ak_base.specs.Heads.{AreTagsInRange}
use Rattle.ak_base.proofs.heads.are_tags_in_range.Given as goal

-- the tags that are left decide
abbrev pub invariant-loop-tag : goal.invariant-loop-tag
invariant-loop-tag l = (AreTagsInRange l.rest → AreTagsInRange l.tags) × (AreTagsInRange l.tags → AreTagsInRange l.rest)

abbrev pub decreases-loop-tag : goal.decreases-loop-tag
decreases-loop-tag l = length l.rest
