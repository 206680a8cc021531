use Rattle.std.proofs.Common.{◌≡◌, ◌++◌, None, drop, map}
use Rattle.serde_json.specs.View.{items_view}
use Rattle.ak_json.specs.FormFaults.{parts_form_fault}
use Rattle.ak_json.specs.NoteTypes.{field_of, fields_in}
use Rattle.ak_json.specs.Forms.{field_form}
use Rattle.ak_json.proofs.note_types.read_fields.Given as goal

-- the fields so far, and then those of the objects that are left, of which none has a fault
abbrev pub invariant-loop-value : goal.invariant-loop-value
invariant-loop-value l =
    record {
      so_far : map field_of l.fields ++ fields_in (items_view (drop l.value-index l.values)) ≡ fields_in (items_view l.values);
      faultless : parts_form_fault field_form (items_view (drop l.value-index l.values)) ≡ None;
    }
