use Rattle.std.proofs.Common.{◌≡◌, drop}
use Rattle.serde_json.specs.View.{view}
use Rattle.ak_wire.specs.Values.{first_key_fault}
use Rattle.ak_wire.proofs.objects.first_key_fault.Given as goal

-- no key so far has a fault
abbrev pub invariant-loop-key : goal.invariant-loop-key
invariant-loop-key l = first_key_fault (drop l.key-index l.form) (view l.value) ≡ first_key_fault l.form (view l.value)
