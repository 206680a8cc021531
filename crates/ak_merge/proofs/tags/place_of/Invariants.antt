use Rattle.std.proofs.Common.{◌≡◌, ◌+◌, drop}
use Rattle.ak_merge.specs.Tags.{tag_place}
use Rattle.ak_merge.proofs.tags.place_of.Given as goal

-- the name is not below the tags so far
abbrev pub invariant-loop-tag : goal.invariant-loop-tag
invariant-loop-tag l = record {
  count : l.place ≡ l.tag-index;
  place : tag_place l.name (drop l.tag-index l.tags) + l.tag-index ≡ tag_place l.name l.tags;
}
