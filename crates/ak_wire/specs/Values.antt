-- What an object holds under its keys, and its first fault.
use Rattle.std.specs.Prelude.{ℕ, ℤ, pos, List, [], ◌∷◌, Bool, false, if◌then◌else◌, Option, Some, None, option_and_then, unwrap_or}
use Rattle.std.specs.Option.{is_some, option_map, option_or}
use Rattle.serde_json.specs.Data.{Data, Items, no_items, item, Members, no_members, member}
use Rattle.serde_json.specs.Find.{get, at, as_number, as_u64, as_str, as_bool, as_array, as_object}
use Rattle.ak_base.specs.declared.heads.Tag.{Tag}
use Rattle.ak_json.specs.Cells.{integers}
use Rattle.ak_json.specs.Kinds.{integer_of}
use Rattle.ak_messages.specs.declared.requests.SanityCounts.{SanityCounts}
use Rattle.ak_wire.specs.Faults.{missing, wrong_kind}
use Rattle.ak_wire.specs.Forms.{Form}
use Rattle.ak_wire.specs.Keys.{key_text}
use Rattle.ak_wire.specs.Kinds.{holds, unsigned_at}
use Rattle.ak_wire.specs.declared.keys.Key.{Key}
use Rattle.ak_wire.specs.declared.objects.KeyFault.{KeyFault}
use Rattle.ak_wire.specs.declared.objects.KeyFault.TheVariants as key_faults
use Rattle.ak_wire.specs.declared.kinds.Kind.{Kind}
use Rattle.ak_wire.specs.declared.wire_faults.WireFault.{WireFault}

-- the fault that a departure from a form is told as
abbrev pub told : KeyFault → WireFault
told key_faults.NoObject = wrong_kind []
told (key_faults.Missing key) = missing (key_text key)
told (key_faults.WrongKind key) = wrong_kind (key_text key)

-- the fault of what was found under a key
abbrev pub found_fault : Key × Kind → Option Data → Option KeyFault
found_fault column None = Some (key_faults.Missing column.0)
found_fault column (Some d) = if holds column.1 d then None else Some (key_faults.WrongKind column.0)

-- the fault of one key of an object
abbrev pub key_fault : Key × Kind → Data → Option KeyFault
key_fault column d = found_fault column (get (key_text column.0) d)

-- of the first key that has one
abbrev pub first_key_fault : Form → Data → Option KeyFault
first_key_fault [] d = None
first_key_fault (column ∷ columns) d = option_or (key_fault column d) (first_key_fault columns d)

-- the value is no object, or its first key that has a fault
abbrev pub object_key_fault : Form → Data → Option KeyFault
object_key_fault form d = if is_some (as_object d) then first_key_fault form d else Some key_faults.NoObject

-- the fault of the first key that has one
abbrev pub first_fault : Form → Data → Option WireFault
first_fault form d = option_map told (first_key_fault form d)

-- the fault of a value that is to be an object of a form
abbrev pub object_fault : Form → Data → Option WireFault
object_fault form d = option_map told (object_key_fault form d)

-- the whole number under a key
abbrev pub integer_under : List ℕ → Data → ℤ
integer_under key d = unwrap_or (option_and_then integer_of (get key d)) (pos 0)

-- the truth value under a key
abbrev pub bool_under : List ℕ → Data → Bool
bool_under key d = unwrap_or (option_and_then as_bool (get key d)) false

-- the text under a key
abbrev pub text_under : List ℕ → Data → List ℕ
text_under key d = unwrap_or (option_and_then as_str (get key d)) []

-- what stands under a key; the whole value, if nothing does
abbrev pub value_under : List ℕ → Data → Data
value_under key d = unwrap_or (get key d) d

-- the values of a list
abbrev pub items_of : Option Data → Items
items_of found = unwrap_or (option_and_then as_array found) no_items

-- the values of the list under a key
abbrev pub items_under : List ℕ → Data → Items
items_under key d = items_of (get key d)

-- the ids of the list under a key
abbrev pub ids_under : List ℕ → Data → List ℤ
ids_under key d = integers (items_under key d)

-- the texts of a list of texts
abbrev pub texts : Items → List (List ℕ)
texts no_items = []
texts (item d ds) = unwrap_or (as_str d) [] ∷ texts ds

-- the count at a place of a list
abbrev pub count_at : ℕ → Data → ℕ
count_at place d = unwrap_or (unsigned_at place d) 0

-- the counts of a side, after what is due
abbrev pub counts_of : Data → SanityCounts
counts_of d = record {
  cards = count_at 1 d;
  notes = count_at 2 d;
  reviews = count_at 3 d;
  graves = count_at 4 d;
  models = count_at 5 d;
  decks = count_at 6 d;
  options = count_at 7 d;
}

-- the counts of a side under a key
abbrev pub counts_under : List ℕ → Data → SanityCounts
counts_under key d = counts_of (value_under key d)

-- the tags of an object, each with its usn, by the bytes of their names
abbrev pub tags_of : Members → List Tag
tags_of no_members = []
tags_of (member k d ms) = record { name = k; usn = unwrap_or (integer_of d) (pos 0) } ∷ tags_of ms

-- the tags under a key
abbrev pub tags_under : List ℕ → Data → List Tag
tags_under key d = tags_of (unwrap_or (option_and_then as_object (get key d)) no_members)
