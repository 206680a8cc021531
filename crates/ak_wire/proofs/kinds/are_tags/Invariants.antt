use Rattle.std.proofs.Common.{◌≡◌}
use Rattle.serde_json.specs.View.{members_view}
use Rattle.ak_wire.specs.Kinds.{are_tags}
use Rattle.ak_wire.proofs.kinds.are_tags.Given as goal

-- the members so far are tags
abbrev pub invariant-loop-name : goal.invariant-loop-name
invariant-loop-name l = are_tags (members_view l.name-iterator) ≡ are_tags (members_view l.members.entries)
