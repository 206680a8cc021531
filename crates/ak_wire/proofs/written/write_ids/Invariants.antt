use Rattle.std.proofs.Common.{◌≡◌, map, take}
use Rattle.serde_json.specs.View.{view}
use Rattle.ak_json.specs.Written.{integer}
use Rattle.ak_wire.proofs.written.write_ids.Given as goal

-- the ids so far are written
abbrev pub invariant-loop-id : goal.invariant-loop-id
invariant-loop-id l = map view l.values.items ≡ map integer (take l.id-index l.ids)
