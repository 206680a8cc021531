use Rattle.std.proofs.Common.{◌≡◌, ◌++◌, length}
use Rattle.ak_merge.specs.TagMaps.{tags_of}
use Rattle.ak_merge.proofs.tag_maps.numbers_of.Given as goal

-- what is left stands before what is in the map
abbrev pub invariant-loop-tag : goal.invariant-loop-tag
invariant-loop-tag l = l.rest.items ++ tags_of l.numbers ≡ l.fn.tags.items

abbrev pub decreases-loop-tag : goal.decreases-loop-tag
decreases-loop-tag l = length l.rest.items
