use Rattle.std.proofs.Common.{◌≡◌, ◌++◌, drop}
use Rattle.serde_json.specs.View.{items_view}
use Rattle.ak_wire.specs.Values.{texts}
use Rattle.ak_wire.proofs.objects.texts.Given as goal

-- the texts so far, and then those of the values that are left
abbrev pub invariant-loop-value : goal.invariant-loop-value
invariant-loop-value l = l.made ++ texts (items_view (drop l.value-index l.values)) ≡ texts (items_view l.values)
