-- The notes by their guids.
use Rattle.std.specs.Prelude.{◌≡◌, ℕ, ℤ, pos, ◌<ℤ◌, ◌≤ℤ◌, Bool, false, List, find, Option, Some, None, String}
use Rattle.std.specs.BTreeMap.{BTreeMap, get_by_text}
use Rattle.std.specs.Option.{option_map}
use Rattle.std.specs.Str.{bytes_eq}
use Rattle.ak_base.specs.Rows.{name_of}
use Rattle.ak_base.specs.declared.notes.Note.{Note}
use Rattle.ak_base.specs.declared.rows.Row.{Row}
use Rattle.ak_base.specs.declared.rows.Row.TheVariants as rows
use Rattle.ak_keep.specs.Collections.{Rows}
use Rattle.ak_keep.specs.Lookups.{note_at}

-- the guid of the note of this id, if it is held
abbrev pub guid_at : Rows → ℤ → Option (List ℕ)
guid_at held id = option_map (λ (note : Note). note.guid) (note_at held id)

-- the note of this id has the guid, and no note of a lesser one has it: an id is at least 1
pub record IsLeastOf (guid_of : ℤ → Option (List ℕ)) (guid : List ℕ) (id : ℤ) : Type 0 where
  pub has : guid_of id ≡ Some guid
  pub least : (other : ℤ) → pos 0 <ℤ other → guid_of other ≡ Some guid → id ≤ℤ other

-- this is the id of the least note with the guid, None if no note has it; the first argument tells the guids of notes by their ids
abbrev pub IsLeast : (ℤ → Option (List ℕ)) → List ℕ → Option ℤ → Type 0
IsLeast guid_of guid None = (id : ℤ) → pos 0 <ℤ id → guid_of id ≡ Some guid → ⊥
IsLeast guid_of guid (Some id) = IsLeastOf guid_of guid id

-- the same of the notes that are held
abbrev pub IsLeastId : Rows → List ℕ → Option ℤ → Type 0
IsLeastId held = IsLeast (guid_at held)

-- the map has, under each guid, the id of the least note with it
abbrev pub AreGuidsOf : {Y : Type 0} → BTreeMap (String Y) ℤ → Rows → Type 0
AreGuidsOf guids held = (guid : List ℕ) → IsLeastId held guid (get_by_text guids guid)

-- ---- how they are read
-- whether the row is a note with the guid
abbrev pub has_guid : List ℕ → Row → Bool
has_guid guid (rows.Note note) = bytes_eq guid note.guid
has_guid guid (rows.Card card) = false
has_guid guid (rows.Review review) = false
has_guid guid (rows.NoteType note_type) = false
has_guid guid (rows.Deck deck) = false
has_guid guid (rows.Options options) = false
has_guid guid (rows.Grave grave) = false

-- the id of a row
abbrev pub id_of : Row → ℤ
id_of row = (name_of row).id

-- the id of the first of the rows that is a note with the guid
abbrev pub first_id : List ℕ → List Row → Option ℤ
first_id guid found = option_map id_of (find (has_guid guid) found)
