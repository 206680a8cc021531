-- The payload of a change: one compact JSON text.
use Rattle.std.specs.Prelude.{◌≡◌, ℕ, codes, List, [], ◌∷◌, map, Option, Some, None}
use Rattle.std.specs.Str.{IsUtf8}
use Rattle.serde_json.specs.Data.{Data, null, boolean, number, unsigned, array, object, no_items, item, Members, no_members, member}
use Rattle.serde_json.specs.Read.{read}
use Rattle.serde_json.specs.View.{items_of}
use Rattle.serde_json.specs.Written.{compact_text}
use Rattle.ak_base.specs.Names.{table_place}
use Rattle.ak_base.specs.Rows.{name_of}
use Rattle.ak_base.specs.declared.heads.Head.{Head}
use Rattle.ak_base.specs.declared.heads.Tag.{Tag}
use Rattle.ak_base.specs.declared.names.Name.{Name}
use Rattle.ak_base.specs.declared.names.Table.{Table}
use Rattle.ak_base.specs.declared.rows.Row.{Row}
use Rattle.ak_json.specs.Confs.{conf_json}
use Rattle.ak_json.specs.Rows.{row_json}
use Rattle.ak_json.specs.Written.{integer}
use Rattle.ak_keep.specs.Collections.{Holding}
use Rattle.ak_journal_rows.specs.Changes.{IsOfForm, after_change}
use Rattle.ak_journal_rows.specs.declared.changes.Change.{Change}

-- the number of a table, from 0 in their order
abbrev pub table_json : Table → Data
table_json table = number (unsigned (table_place table))

-- the array of these two
abbrev pub both : Data → Data → Data
both one other = array (item one (item other no_items))

-- a name: its table's number, and its id
abbrev pub name_json : Name → Data
name_json name = both (table_json name.table) (integer name.id)

-- a row behind its table's number
abbrev pub entry_json : Row → Data
entry_json row = both (table_json (name_of row).table) (row_json row)

-- tags as members, in their order
abbrev pub tag_members : List Tag → Members
tag_members [] = no_members
tag_members (tag ∷ tags) = member tag.name (integer tag.usn) (tag_members tags)

-- a head as an object. The tags of a head in its range ascend by the bytes of their names, as the members of an object do
abbrev pub some_head_json : Head → Data
some_head_json head =
    object (member (codes "conf") (conf_json head.conf) (member (codes "crt") (integer head.crt) (member (codes "ls") (integer head.last_sync)
    (member (codes "mod") (integer head.moment) (member (codes "scm") (integer head.schema) (member (codes "tags") (object (tag_members head.tags))
    (member (codes "usn") (integer head.usn) no_members)))))))

-- a head; null if it was not set
abbrev pub head_json : Option Head → Data
head_json None = null
head_json (Some head) = some_head_json head

-- the array of what these are written as
abbrev pub list_json : {A : Type 0} → (A → Data) → List A → Data
list_json json entries = array (items_of (map json entries))

-- a change, as one JSON value
abbrev pub change_json : Change → Data
change_json change =
    object (member (codes "all") (boolean change.all) (member (codes "cut") (list_json name_json change.cut) (member (codes "head") (head_json change.head)
    (member (codes "put") (list_json entry_json change.put) no_members))))

-- the payload is that of a change of the form: it is read as the change's value, and is the compact text of that value
pub record IsPayloadOf (payload : List ℕ) (change : Change) : Type 0 where
  pub formed : IsOfForm change
  pub utf8 : IsUtf8 payload
  pub reads : read payload ≡ Some (change_json change)
  pub compact : payload ≡ compact_text (change_json change)

-- the payloads, one after the other, lead from what was held to what is held
abbrev pub LeadTo : Holding → List (List ℕ) → Holding → Type 0
LeadTo was [] now = now ≡ was
LeadTo was (payload ∷ payloads) now = (change : Change) × IsPayloadOf payload change × LeadTo (after_change change was) payloads now

-- the payloads lead to some collection, and the payload after them leads on from there
abbrev pub LeadsLast : Holding → List (List ℕ) → List ℕ → Holding → Type 0
LeadsLast was payloads payload now =
    (before : Holding) × (change : Change) × LeadTo was payloads before × IsPayloadOf payload change × (now ≡ after_change change before)
