use Rattle.std.proofs.Common.{◌≡◌, drop, map}
use Rattle.ak_merge.specs.Tags.{has_name}
use Rattle.ak_study.specs.LeechTags.{leech_tag}
use Rattle.ak_study.proofs.leech_tags.has_leech.Given as goal

-- the tags so far are others
abbrev pub invariant-loop-tag : goal.invariant-loop-tag
invariant-loop-tag l = has_name (map (λ tag. tag.now) (drop l.tag-index l.tags)) leech_tag ≡ has_name (map (λ tag. tag.now) l.tags) leech_tag
