-- The unknown keys of an object that is read, and the object that is written with them.
use Rattle.std.specs.Prelude.{ℕ, List, Option, option_map, unwrap_or}
use Rattle.serde_json.specs.Data.{Data, object, Members, no_members}
use Rattle.serde_json.specs.Find.{as_object}
use Rattle.serde_json.specs.Written.{compact_text}
use Rattle.ak_base.specs.Rests.{members_of}
use Rattle.ak_json.specs.Members.{Form}
use Rattle.ak_json.specs.Members.{unknown, deep_member}
use Rattle.ak_json.specs.Objects.{put_cells}
use Rattle.ak_json.specs.declared.faults.JsonFault.{JsonFault}
use Rattle.ak_json.specs.declared.faults.JsonFault.TheVariants as faults

-- the members of an object of which no column is one
abbrev pub kept : Form → Data → Members
kept form d = unknown form (unwrap_or (as_object d) no_members)

-- their compact text
abbrev pub rest_text : Form → Data → List ℕ
rest_text form d = compact_text (object (kept form d))

-- the fault of the first member that nests too deep or holds a number that is not whole
abbrev pub deep_fault : Members → Option JsonFault
deep_fault ms = option_map faults.WrongKind (deep_member ms)

-- of the members of which no column is one
abbrev pub deep_key : Form → Data → Option JsonFault
deep_key form d = deep_fault (kept form d)

-- the members that a rest keeps
abbrev pub rest_members : List ℕ → Members
rest_members rest = unwrap_or (members_of rest) no_members

-- the object of these cells and the members of a rest
abbrev pub object_json : Form → List Data → List ℕ → Data
object_json form cells rest = object (put_cells form cells (rest_members rest))
