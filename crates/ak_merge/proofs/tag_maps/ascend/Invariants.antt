use Rattle.std.proofs.Common.{◌≡◌, length}
use Rattle.ak_merge.specs.TagMaps.{ascend}
use Rattle.ak_merge.proofs.tag_maps.ascend.Given as goal

-- the tags ascend if the rest does
abbrev pub invariant-loop-tag : goal.invariant-loop-tag
invariant-loop-tag l = ascend l.rest ≡ ascend l.tags

abbrev pub decreases-loop-tag : goal.decreases-loop-tag
decreases-loop-tag l = length l.rest
