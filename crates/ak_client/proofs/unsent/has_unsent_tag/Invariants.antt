use Rattle.std.proofs.Common.{◌≡◌, drop}
use Rattle.ak_client.specs.Unsent.{has_unsent_tag}
use Rattle.ak_client.proofs.unsent.has_unsent_tag.Given as goal

-- the tags so far were sent
abbrev pub invariant-loop-tag : goal.invariant-loop-tag
invariant-loop-tag l = has_unsent_tag (drop l.tag-index l.tags) ≡ has_unsent_tag l.tags
