use Rattle.std.proofs.Common.{◌≡◌, None, drop}
use Rattle.serde_json.specs.View.{items_view}
use Rattle.ak_wire.specs.Kinds.{ids_after}
use Rattle.ak_wire.proofs.kinds.are_ids.Given as goal

-- the numbers so far ascend
abbrev pub invariant-loop-value : goal.invariant-loop-value
invariant-loop-value l = ids_after l.before (items_view (drop l.value-index l.values)) ≡ ids_after None (items_view l.values)
