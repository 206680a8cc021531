use Rattle.std.proofs.Common.{◌≡◌, ◌++◌, None, drop, map}
use Rattle.serde_json.specs.View.{items_view}
use Rattle.ak_json.specs.FormFaults.{parts_form_fault}
use Rattle.ak_json.specs.NoteTypes.{template_of, templates_in}
use Rattle.ak_json.specs.Forms.{template_form}
use Rattle.ak_json.proofs.note_types.read_templates.Given as goal

-- the templates so far, and then those of the objects that are left, of which none has a fault
abbrev pub invariant-loop-value : goal.invariant-loop-value
invariant-loop-value l =
    record {
      so_far : map template_of l.templates ++ templates_in (items_view (drop l.value-index l.values)) ≡ templates_in (items_view l.values);
      faultless : parts_form_fault template_form (items_view (drop l.value-index l.values)) ≡ None;
    }
