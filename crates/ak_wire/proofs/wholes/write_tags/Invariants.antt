use Rattle.std.proofs.Common.{◌≡◌, drop}
use Rattle.serde_json.specs.View.{members_view}
use Rattle.serde_json.specs.Data.{no_members}
use Rattle.ak_wire.specs.Written.{with_members, tag_pairs}
use Rattle.ak_wire.proofs.wholes.write_tags.Given as goal

-- the tags so far are written, and then those that are left
abbrev pub invariant-loop-tag : goal.invariant-loop-tag
invariant-loop-tag l =
    with_members (tag_pairs (drop l.tag-index l.tags)) (members_view l.members.entries) ≡ with_members (tag_pairs l.tags) no_members
