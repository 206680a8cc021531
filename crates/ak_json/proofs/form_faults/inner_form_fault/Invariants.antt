use Rattle.std.proofs.Common.{◌≡◌, drop}
use Rattle.ak_json.specs.FormFaults.{inner_form_fault}
use Rattle.serde_json.specs.View.{view}
use Rattle.ak_json.proofs.form_faults.inner_form_fault.Given as goal

-- no column so far has a fault
abbrev pub invariant-loop-place : goal.invariant-loop-place
invariant-loop-place l = inner_form_fault (drop l.place-index l.form) (view l.value) ≡ inner_form_fault l.form (view l.value)
