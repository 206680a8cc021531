-- How a value departs from the form of a row: the first fault, by the order of the columns.
use Rattle.std.specs.Prelude.{ℕ, [], ◌∷◌, length, if◌then◌else◌, Option, Some, None, unwrap_or}
use Rattle.std.specs.Option.{is_some, option_or}
use Rattle.serde_json.specs.Data.{Data, Items, no_items, item, Members}
use Rattle.serde_json.specs.Find.{at, as_array, as_object}
use Rattle.ak_json.specs.Keys.{find}
use Rattle.ak_json.specs.Kinds.{holds, may_lack}
use Rattle.ak_json.specs.Members.{Form, has_deep}
use Rattle.ak_json.specs.declared.keys.Place.{Place}
use Rattle.ak_json.specs.declared.keys.Place.TheVariants as places
use Rattle.ak_json.specs.declared.kinds.Kind.{Kind}
use Rattle.ak_json.specs.declared.kinds.Kind.TheVariants as kinds
use Rattle.ak_json.specs.Forms.{field_form, template_form, new_form, rev_form, lapse_form, old_new_form, old_rev_form, old_lapse_form}
use Rattle.ak_json.specs.declared.form_faults.FormFault.{FormFault}
use Rattle.ak_json.specs.declared.form_faults.FormFault.TheVariants.{WholeValue, Missing, WrongKind}

-- of what was found at a column
abbrev pub found_form_fault : Place × Kind → Option Data → Option FormFault
found_form_fault column None = if may_lack column.1 then None else Some (Missing column.0)
found_form_fault column (Some d) = if holds column.1 d then None else Some (WrongKind column.0)

-- of one column, but not of what stands inside
abbrev pub plain_form_fault : Place × Kind → Data → Option FormFault
plain_form_fault column d = found_form_fault column (find column.0 d)

-- of the first column that has one, in an object inside a row
abbrev pub inner_form_fault : Form → Data → Option FormFault
inner_form_fault [] d = None
inner_form_fault (column ∷ columns) d = option_or (plain_form_fault column d) (inner_form_fault columns d)

-- of an object of a list: of its known keys, else of its unknown ones
abbrev pub object_form_fault_of : Form → Data → Option Members → Option FormFault
object_form_fault_of form d None = Some WholeValue
object_form_fault_of form d (Some ms) = option_or (inner_form_fault form d) (if has_deep form ms then Some WholeValue else None)

-- the same of any value
abbrev pub part_form_fault : Form → Data → Option FormFault
part_form_fault form d = object_form_fault_of form d (as_object d)

-- of the first object of a list that has one
abbrev pub parts_form_fault : Form → Items → Option FormFault
parts_form_fault form no_items = None
parts_form_fault form (item d ds) = option_or (part_form_fault form d) (parts_form_fault form ds)

-- of what stands inside a column of a kind that holds objects
abbrev pub form_fault_inside : Kind → Data → Option FormFault
form_fault_inside kinds.Fields d = parts_form_fault field_form (unwrap_or (as_array d) no_items)
form_fault_inside kinds.Templates d = parts_form_fault template_form (unwrap_or (as_array d) no_items)
form_fault_inside kinds.New d = inner_form_fault new_form d
form_fault_inside kinds.Rev d = inner_form_fault rev_form d
form_fault_inside kinds.Lapse d = inner_form_fault lapse_form d
form_fault_inside kinds.OldNew d = inner_form_fault old_new_form d
form_fault_inside kinds.OldRev d = inner_form_fault old_rev_form d
form_fault_inside kinds.OldLapse d = inner_form_fault old_lapse_form d
form_fault_inside other d = None

-- what is inside a column is told by the row's own key
abbrev pub told_at : Place → Option FormFault → Option FormFault
told_at place None = None
told_at place (Some WholeValue) = Some (WrongKind place)
told_at place (Some (Missing inside)) = Some (Missing place)
told_at place (Some (WrongKind inside)) = Some (WrongKind place)

-- of what stands inside a column, where something stands there
abbrev pub form_fault_within : Place × Kind → Option Data → Option FormFault
form_fault_within column None = None
form_fault_within column (Some d) = told_at column.0 (form_fault_inside column.1 d)

-- of one column of a row
abbrev pub column_form_fault : Place × Kind → Data → Option FormFault
column_form_fault column d = option_or (plain_form_fault column d) (form_fault_within column (find column.0 d))

-- of the first column that has one
abbrev pub first_form_fault : Form → Data → Option FormFault
first_form_fault [] d = None
first_form_fault (column ∷ columns) d = option_or (column_form_fault column d) (first_form_fault columns d)

-- one column too many
abbrev pub excess_form_fault : ℕ → Data → Option FormFault
excess_form_fault width d = if is_some (at width d) then Some (WrongKind (places.At width)) else None

-- of an array of these columns
abbrev pub array_form_fault : Form → Data → Option FormFault
array_form_fault form d =
    if is_some (as_array d) then option_or (first_form_fault form d) (excess_form_fault (length form) d) else Some WholeValue
