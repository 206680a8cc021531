use Rattle.std.proofs.Common.{◌≡◌, ◌==◌, drop, find}
use Rattle.std.specs.Cmp.Lexicographic.{pointwise}
use Rattle.ak_base.specs.declared.heads.Tag.{Tag}
use Rattle.ak_merge.proofs.tags.has_tag.Given as goal

-- the tags so far have other names
abbrev pub invariant-loop-tag : goal.invariant-loop-tag
invariant-loop-tag l = find (λ (tag : Tag). pointwise ◌==◌ tag.name l.name) (drop l.tag-index l.tags) ≡ find (λ (tag : Tag). pointwise ◌==◌ tag.name l.name) l.tags
