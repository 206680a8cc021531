use Rattle.std.proofs.Common.{◌≡◌}
use Rattle.serde_json.specs.View.{members_view}
use Rattle.ak_json.specs.Members.{has_deep}
use Rattle.ak_json.proofs.members.has_deep.Given as goal

-- no unknown member so far is deep
abbrev pub invariant-loop-key : goal.invariant-loop-key
invariant-loop-key l = has_deep l.form (members_view l.key-iterator) ≡ has_deep l.form (members_view l.members.entries)
