use Rattle.std.proofs.Common.{◌≡◌, ◌++◌, length}
use Rattle.ak_merge.specs.TagMaps.{tags_of}
use Rattle.ak_merge.proofs.tag_maps.list_tags.Given as goal

-- the list stands before what is left in the map
abbrev pub invariant-loop-name : goal.invariant-loop-name
invariant-loop-name l = l.tags ++ tags_of l.rest ≡ tags_of l.fn.numbers

abbrev pub decreases-loop-name : goal.decreases-loop-name
decreases-loop-name l = length l.rest.entries
