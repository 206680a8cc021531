use Rattle.std.proofs.Common.{◌≡◌, List, ◌++◌}
use Rattle.serde_json.specs.View.{members_view}
use Rattle.serde_json.proofs.Views.{Entry}
use Rattle.ak_json.specs.Members.{unknown}
use Rattle.ak_json.proofs.members.unknown.Given as goal

-- the unknown members so far are kept
abbrev pub invariant-loop-key : goal.invariant-loop-key
invariant-loop-key l =
    (done : List Entry) × (l.members.entries ≡ done ++ l.key-iterator) × (members_view l.kept.entries ≡ unknown l.form (members_view done))
