use Rattle.std.proofs.Common.{◌≡◌, ◌++◌, drop, map}
use Rattle.ak_study.proofs.leech_tags.names_with_leech.Given as goal

-- the names so far, and the tags that are left, are all
abbrev pub invariant-loop-tag : goal.invariant-loop-tag
invariant-loop-tag l = l.names.items ++ map (λ tag. tag.now) (drop l.tag-index l.tags) ≡ map (λ tag. tag.now) l.tags
