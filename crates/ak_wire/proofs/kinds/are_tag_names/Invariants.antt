use Rattle.std.proofs.Common.{◌≡◌, drop}
use Rattle.serde_json.specs.View.{items_view}
use Rattle.ak_wire.specs.Kinds.{are_tag_names}
use Rattle.ak_wire.proofs.kinds.are_tag_names.Given as goal

-- the values so far are names of tags
abbrev pub invariant-loop-value : goal.invariant-loop-value
invariant-loop-value l = are_tag_names (items_view (drop l.value-index l.values)) ≡ are_tag_names (items_view l.values)
