use Rattle.std.proofs.Common.{◌≡◌, ◌++◌}
use Rattle.serde_json.specs.View.{members_view}
use Rattle.ak_wire.specs.Values.{tags_of}
use Rattle.ak_wire.proofs.objects.tags_of.Given as goal

-- the tags so far, and then those of the members that are left
abbrev pub invariant-loop-name : goal.invariant-loop-name
invariant-loop-name l = l.tags ++ tags_of (members_view l.name-iterator) ≡ tags_of (members_view l.members.entries)
