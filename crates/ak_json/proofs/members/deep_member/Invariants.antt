use Rattle.std.proofs.Common.{◌≡◌}
use Rattle.serde_json.specs.View.{members_view}
use Rattle.ak_json.specs.Members.{deep_member}
use Rattle.ak_json.proofs.members.deep_member.Given as goal

-- no member so far is deep
abbrev pub invariant-loop-key : goal.invariant-loop-key
invariant-loop-key l = deep_member (members_view l.key-iterator) ≡ deep_member (members_view l.members.entries)
