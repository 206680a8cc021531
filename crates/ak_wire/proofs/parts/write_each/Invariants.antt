use Rattle.std.proofs.Common.{◌≡◌, map, take}
use Rattle.serde_json.specs.View.{view}
use Rattle.ak_wire.proofs.parts.write_each.Given as goal

-- the parts so far are written
abbrev pub invariant-loop-part : goal.invariant-loop-part
invariant-loop-part g l = map view l.values.items ≡ map g.P.Part.json (take l.part-index l.parts)
