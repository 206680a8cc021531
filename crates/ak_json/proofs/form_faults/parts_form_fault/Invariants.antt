use Rattle.std.proofs.Common.{◌≡◌, drop}
use Rattle.std.specs.Prelude.{unwrap_or}
use Rattle.serde_json.specs.Data.{no_items}
use Rattle.serde_json.specs.Find.{as_array}
use Rattle.serde_json.specs.View.{view, items_view}
use Rattle.ak_json.specs.FormFaults.{parts_form_fault}
use Rattle.ak_json.proofs.form_faults.parts_form_fault.Given as goal

-- no object so far has a fault
abbrev pub invariant-loop-part : goal.invariant-loop-part
invariant-loop-part l =
    parts_form_fault l.form (items_view (drop l.part-index l.part-items)) ≡ parts_form_fault l.form (unwrap_or (as_array (view l.value)) no_items)
