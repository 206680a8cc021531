use Rattle.std.proofs.Common.{◌≡◌, drop}
use Rattle.ak_json.specs.FormFaults.{first_form_fault}
use Rattle.serde_json.specs.View.{view}
use Rattle.ak_json.proofs.form_faults.first_form_fault.Given as goal

-- no column so far has a fault
abbrev pub invariant-loop-place : goal.invariant-loop-place
invariant-loop-place l = first_form_fault (drop l.place-index l.form) (view l.value) ≡ first_form_fault l.form (view l.value)
