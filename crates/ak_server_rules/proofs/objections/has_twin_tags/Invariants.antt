use Rattle.std.specs.Prelude.{ℕ, List}
use Rattle.std.proofs.Common.{◌≡◌, drop, Bor}
use Rattle.std.specs.Cmp.Lexicographic.{slice_cmp}
use Rattle.std.specs.Ordering.{nat_cmp}
use Rattle.ak_base.specs.declared.heads.Tag.{Tag}
use Rattle.ak_session.specs.Refusals.{has_twins, same_tags}
use Rattle.ak_server_rules.proofs.Twins.{meets}
use Rattle.ak_server_rules.proofs.objections.has_twin_tags.Given as goal

-- tags that are left meet the names so far or each other exactly if there are twins among all
abbrev pub invariant-loop-tag : goal.invariant-loop-tag
invariant-loop-tag l =
    meets (slice_cmp nat_cmp) (λ (key : Bor (List ℕ)). key.now) (λ (tag : Tag). tag.name) l.names.keys (drop l.tag-index l.fn.tags) ≡ has_twins same_tags l.fn.tags
