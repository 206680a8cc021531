use Rattle.std.proofs.Common.{◌≡◌, drop}
use Rattle.serde_json.specs.View.{items_view}
use Rattle.ak_json.specs.Kinds.{are_integers}
use Rattle.ak_json.proofs.kinds.are_integers.Given as goal

-- the values so far are whole
abbrev pub invariant-loop-value : goal.invariant-loop-value
invariant-loop-value l = are_integers (items_view (drop l.value-index l.values)) ≡ are_integers (items_view l.values)
