-- The rows that are objects: their known keys, and the unknown ones that they keep.
use Rattle.std.specs.Prelude.{List, [], ◌∷◌, if◌then◌else◌, Option, Some}
use Rattle.std.specs.Option.{is_some}
use Rattle.serde_json.specs.Data.{Data, Members, put}
use Rattle.serde_json.specs.Find.{as_object}
use Rattle.ak_json.specs.Keys.{key_text}
use Rattle.ak_json.specs.FormFaults.{first_form_fault}
use Rattle.ak_json.specs.Members.{Form}
use Rattle.ak_json.specs.declared.keys.Place.{Place}
use Rattle.ak_json.specs.declared.keys.Place.TheVariants as places
use Rattle.ak_json.specs.declared.form_faults.FormFault.{FormFault}
use Rattle.ak_json.specs.declared.form_faults.FormFault.TheVariants.{WholeValue}

-- the first fault of an object of these columns
abbrev pub object_form_fault : Form → Data → Option FormFault
object_form_fault form d = if is_some (as_object d) then first_form_fault form d else Some WholeValue

-- the members with the value where the column stands
abbrev pub put_at : Place → Data → Members → Members
put_at (places.Key own) d ms = put (key_text own) d ms
put_at (places.At place) d ms = ms

-- with each cell where its column stands
abbrev pub put_cells : Form → List Data → Members → Members
put_cells [] cells ms = ms
put_cells (column ∷ columns) [] ms = ms
put_cells (column ∷ columns) (cell ∷ cells) ms = put_cells columns cells (put_at column.0 cell ms)
