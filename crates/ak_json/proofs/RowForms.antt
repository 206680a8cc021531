-- From the form_faults of a row to what is inside it, and from the form's fault to the row's.
use Rattle.std.proofs.Common.{◌≡◌, ℕ, zero, suc, [], ◌∷◌, Bool, true, false, Option, Some, None, refl, sym, subst}
use Rattle.ak_base.proofs.Optional.{first_none, second_none}
use Rattle.std.specs.Prelude.{if◌then◌else◌, unwrap_or, option_and_then}
use Rattle.std.specs.Option.{is_some}
use Rattle.serde_json.specs.Data.{Data, no_items}
use Rattle.serde_json.specs.Find.{get, as_array, as_object}
use Rattle.ak_base.specs.declared.names.Table.{Table}
use Rattle.ak_base.specs.declared.names.Table.TheVariants as tables
use Rattle.ak_json.specs.Keys.{key_text}
use Rattle.ak_json.specs.Members.{Form}
use Rattle.ak_json.specs.FormFaults.{plain_form_fault, parts_form_fault, told_at, form_fault_within, column_form_fault, first_form_fault}
use Rattle.ak_json.specs.Faults.{Tells}
use Rattle.ak_json.specs.NoteTypes.{items_at}
use Rattle.ak_json.specs.Objects.{object_form_fault}
use Rattle.ak_base.specs.declared.rows.Row.{Row}
use Rattle.ak_base.specs.declared.rows.Row.TheVariants as rows
use Rattle.ak_json.specs.Rows.{IsRow, StandsIn, kept_row, row_form_fault, form_refusal, RefusesRow}
use Rattle.ak_json.specs.declared.faults.JsonFault.{JsonFault}
use Rattle.ak_json.specs.declared.faults.JsonFault.TheVariants as faults
use Rattle.ak_json.specs.declared.form_faults.FormFault.{FormFault}
use Rattle.ak_json.specs.declared.form_faults.FormFault.TheVariants as form_faults
use Rattle.ak_json.specs.Forms.{note_type_form, field_form, template_form}
use Rattle.ak_json.specs.declared.keys.Place.{Place}
use Rattle.ak_json.specs.declared.keys.Place.TheVariants as places
use Rattle.ak_json.specs.declared.keys.Key.TheVariants as keys
use Rattle.ak_json.specs.declared.kinds.Kind.TheVariants as kinds

-- the fault of a column, counted from 0
abbrev pub form_fault_at : Form → ℕ → Data → Option FormFault
form_fault_at [] n d = None
form_fault_at (column ∷ columns) zero d = column_form_fault column d
form_fault_at (column ∷ columns) (suc n) d = form_fault_at columns n d

-- where no column has a fault, this one has none
pub none_at : (form : Form) (n : ℕ) (d : Data) → first_form_fault form d ≡ None → form_fault_at form n d ≡ None
none_at [] n d h = refl
none_at (column ∷ columns) zero d h = first_none (column_form_fault column d) (first_form_fault columns d) h
none_at (column ∷ columns) (suc n) d h = none_at columns n d (second_none (column_form_fault column d) (first_form_fault columns d) h)

pub when_object : (b : Bool) (x : Option FormFault) → (if b then x else Some form_faults.WholeValue) ≡ None → x ≡ None
when_object true x h = h
when_object false x h = cc

told_none : (place : Place) (o : Option FormFault) → told_at place o ≡ None → o ≡ None
told_none place None h = refl
told_none place (Some form_faults.WholeValue) h = cc
told_none place (Some (form_faults.Missing inside)) h = cc
told_none place (Some (form_faults.WrongKind inside)) h = cc

inside_fields : (place : Place) (o : Option Data) → form_fault_within (place, kinds.Fields) o ≡ None → parts_form_fault field_form (unwrap_or (option_and_then as_array o) no_items) ≡ None
inside_fields place None h = refl
inside_fields place (Some d) h = told_none place _ h

inside_templates : (place : Place) (o : Option Data) → form_fault_within (place, kinds.Templates) o ≡ None → parts_form_fault template_form (unwrap_or (option_and_then as_array o) no_items) ≡ None
inside_templates place None h = refl
inside_templates place (Some d) h = told_none place _ h

in_fields : (d : Data) → object_form_fault note_type_form d ≡ None → parts_form_fault field_form (items_at 6 d) ≡ None
in_fields d h =
    let faultless : first_form_fault note_type_form d ≡ None = when_object (is_some (as_object d)) _ h in
    let here : column_form_fault (places.Key keys.Flds, kinds.Fields) d ≡ None = none_at note_type_form 6 d faultless in
    inside_fields (places.Key keys.Flds) (get (key_text keys.Flds) d) (second_none (plain_form_fault (places.Key keys.Flds, kinds.Fields) d) _ here)

in_templates : (d : Data) → object_form_fault note_type_form d ≡ None → parts_form_fault template_form (items_at 7 d) ≡ None
in_templates d h =
    let faultless : first_form_fault note_type_form d ≡ None = when_object (is_some (as_object d)) _ h in
    let here : column_form_fault (places.Key keys.Tmpls, kinds.Templates) d ≡ None = none_at note_type_form 7 d faultless in
    inside_templates (places.Key keys.Tmpls) (get (key_text keys.Tmpls) d) (second_none (plain_form_fault (places.Key keys.Tmpls, kinds.Templates) d) _ here)

-- the fields of a note type without a fault have none
pub fields_faultless : (table : Table) (d : Data) → table ≡ tables.NoteType → row_form_fault table d ≡ None → parts_form_fault field_form (items_at 6 d) ≡ None
fields_faultless table d is h = in_fields d (subst (λ (t : Table). row_form_fault t d ≡ None) is h)

-- so do its templates
pub templates_faultless : (table : Table) (d : Data) → table ≡ tables.NoteType → row_form_fault table d ≡ None → parts_form_fault template_form (items_at 7 d) ≡ None
templates_faultless table d is h = in_templates d (subst (λ (t : Table). row_form_fault t d ≡ None) is h)

pub form_refuses : (table : Table) (d : Data) (fault : JsonFault) → Tells (form_refusal table d) fault → RefusesRow table d fault
form_refuses table d faults.NotJson h = h
form_refuses table d (faults.Missing text) h = h
form_refuses table d (faults.WrongKind text) h = h
form_refuses table d (faults.Row fault) h = absurd h
form_refuses table d faults.Memory h = tt

-- the row stands in the table once its steps are seconds
pub kept_stands : (table : Table) (d : Data) (stored : Row) → StandsIn table stored → StandsIn table (kept_row d stored)
kept_stands table d (rows.Note n) h = h
kept_stands table d (rows.Card c) h = h
kept_stands table d (rows.Review r) h = h
kept_stands table d (rows.NoteType n) h = h
kept_stands table d (rows.Deck k) h = h
kept_stands table d (rows.Grave g) h = h
kept_stands tables.Options d (rows.Options o) h = tt
kept_stands table d (rows.Options o) h = absurd h

pub stands_again : (table : Table) (d : Data) (stored row : Row) → IsRow table d stored → row ≡ kept_row d stored → StandsIn table row
stands_again table d stored row is kept = subst (StandsIn table) (sym kept) (kept_stands table d stored is.0)
