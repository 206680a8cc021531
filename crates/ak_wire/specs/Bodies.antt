-- What the parts of messages are in JSON: ids of graves, chunks and changes.
use Rattle.std.specs.Prelude.{◌≡◌, ◌+◌, ◌||◌, ℕ, nat_le, codes, Bool, true, false, if◌then◌else◌, Option, Some, None}
use Rattle.std.specs.Option.{is_some, option_or}
use Rattle.serde_json.specs.Data.{Data, Items}
use Rattle.serde_json.specs.Events.{items_len}
use Rattle.serde_json.specs.Find.{get, at}
use Rattle.ak_base.specs.declared.names.Table.TheVariants as tables
use Rattle.ak_json.specs.Confs.{ReadsConf, conf_fault}
use Rattle.ak_json.specs.Faults.{Tells}
use Rattle.ak_messages.specs.declared.requests.Changes.{Changes}
use Rattle.ak_messages.specs.declared.requests.Chunk.{Chunk}
use Rattle.ak_messages.specs.declared.requests.GraveIds.{GraveIds}
use Rattle.ak_messages.specs.declared.requests.Newer.{Newer}
use Rattle.ak_wire.specs.Faults.{First, Then, ReadsEach, RefusesEach}
use Rattle.ak_wire.specs.Forms.{graves_form, chunk_form, changes_form, newer_form}
use Rattle.ak_wire.specs.Parts.{OfJson, RefusesRowOf, ThenAfter, ReadsNote, ReadsCard, ReadsReview, ReadsNoteType, ReadsDeck, ReadsOptions}
use Rattle.ak_wire.specs.Found.{HasInteger, HasBool, Under, AtPlace, ReadsList, IsInteger, IsText}
use Rattle.ak_wire.specs.Values.{first_fault, object_fault, integer_under, value_under, items_of, items_under, ids_under}
use Rattle.ak_wire.specs.declared.wire_faults.WireFault.{WireFault}
use Rattle.ak_wire.specs.declared.wire_faults.WireFault.TheVariants.{TooManyRows}

-- more than 250 entries
abbrev pub too_many : ℕ → Option WireFault
too_many entries = if nat_le entries 250 then None else Some (TooManyRows entries)

-- the first fault of an object of ids of graves
abbrev pub graves_fault : Data → Option WireFault
graves_fault d = object_fault graves_form d

-- the ids of such an object
abbrev pub graves_of : Data → GraveIds
graves_of d = record {
  cards = ids_under (codes "cards") d;
  notes = ids_under (codes "notes") d;
  decks = ids_under (codes "decks") d;
}

-- the ids are those of an object of their form
pub record ReadsGraves (d : Data) (ids : GraveIds) : Type 0 where
  pub form : graves_fault d ≡ None
  pub cards : Under (codes "cards") (ReadsList IsInteger) d ids.cards
  pub notes : Under (codes "notes") (ReadsList IsInteger) d ids.notes
  pub decks : Under (codes "decks") (ReadsList IsInteger) d ids.decks

-- how many entries the lists under `cards`, `decks` and `notes` have together
abbrev pub grave_values : Data → ℕ
grave_values d = items_len (items_under (codes "cards") d) + items_len (items_under (codes "decks") d) + items_len (items_under (codes "notes") d)

-- how many entries the lists of a chunk have together
abbrev pub chunk_values : Data → ℕ
chunk_values d = items_len (items_under (codes "cards") d) + items_len (items_under (codes "notes") d) + items_len (items_under (codes "revlog") d)

-- the first fault of a chunk but for those of its rows: of its keys, then of their number
abbrev pub chunk_fault : Data → Option WireFault
chunk_fault d = option_or (object_fault chunk_form d) (too_many (chunk_values d))

-- the chunk is that of an object of its form
pub record ReadsChunk (d : Data) (c : Chunk) : Type 0 where
  pub form : chunk_fault d ≡ None
  pub done : HasBool (codes "done") d c.done
  pub cards : Under (codes "cards") (ReadsList ReadsCard) d c.cards
  pub notes : Under (codes "notes") (ReadsList ReadsNote) d c.notes
  pub reviews : Under (codes "revlog") (ReadsList ReadsReview) d c.reviews

-- the first fault of a row of a chunk: of cards, then of notes, then of reviews
abbrev pub ChunkRowFault : Data → WireFault → Type 0
ChunkRowFault d =
    ThenAfter ReadsCard tables.Card (items_under (codes "cards") d) (ThenAfter ReadsNote tables.Note (items_under (codes "notes") d)
    (RefusesEach ReadsReview (RefusesRowOf tables.Review) (items_under (codes "revlog") d)))

-- the object is no chunk, for this fault
abbrev pub ChunkFault : Data → WireFault → Type 0
ChunkFault d = First (chunk_fault d) (ChunkRowFault d)

-- the sender gives its settings: one of their two keys is there
abbrev pub is_newer : Data → Bool
is_newer d = is_some (get (codes "conf") d) || is_some (get (codes "crt") d)

-- the fault of their keys: neither stands alone
abbrev pub newer_fault : Data → Option WireFault
newer_fault d = if is_newer d then first_fault newer_form d else None

-- the settings are there if the sender gives them
abbrev pub ReadsNewer : Data → Option Newer → Type 0
ReadsNewer d None = is_newer d ≡ false
ReadsNewer d (Some newer) = Under (codes "conf") ReadsConf d newer.conf × HasInteger (codes "crt") d newer.crt

-- the settings are those of an object that has both of their keys or none
abbrev pub TakesNewer : Data → Option Newer → Type 0
TakesNewer d None = is_newer d ≡ false
TakesNewer d (Some newer) =
    (is_newer d ≡ true) × ReadsConf (value_under (codes "conf") d) newer.conf × (newer.crt ≡ integer_under (codes "crt") d)

-- the fault of the settings, where they are given
abbrev pub NewerFault : Data → WireFault → Type 0
NewerFault d fault = (is_newer d ≡ true) × OfJson (Tells (conf_fault (value_under (codes "conf") d))) fault

-- the decks of changes, which stand in a list with the option groups
abbrev pub deck_items : Data → Items
deck_items d = items_of (at 0 (value_under (codes "decks") d))

-- the option groups of changes
abbrev pub options_items : Data → Items
options_items d = items_of (at 1 (value_under (codes "decks") d))

-- the first fault of changes but for those of their settings and rows: of the keys of the settings, then of those that are always there
abbrev pub changes_fault : Data → Option WireFault
changes_fault d = option_or (newer_fault d) (object_fault changes_form d)

-- the changes are those of an object of their form
pub record ReadsChanges (d : Data) (c : Changes) : Type 0 where
  pub form : changes_fault d ≡ None
  pub newer : ReadsNewer d c.newer
  pub decks : Under (codes "decks") (AtPlace 0 (ReadsList ReadsDeck)) d c.decks
  pub options : Under (codes "decks") (AtPlace 1 (ReadsList ReadsOptions)) d c.options
  pub models : Under (codes "models") (ReadsList ReadsNoteType) d c.models
  pub tags : Under (codes "tags") (ReadsList IsText) d c.tags

-- the first fault of the settings and rows of changes: settings, decks, option groups, note types
abbrev pub ChangesRowFault : Data → WireFault → Type 0
ChangesRowFault d =
    Then {A = Option Newer} (NewerFault d) (TakesNewer d) (ThenAfter ReadsDeck tables.Deck (deck_items d)
    (ThenAfter ReadsOptions tables.Options (options_items d)
    (RefusesEach ReadsNoteType (RefusesRowOf tables.NoteType) (items_under (codes "models") d))))

-- the object has no changes, for this fault
abbrev pub ChangesFault : Data → WireFault → Type 0
ChangesFault d = First (changes_fault d) (ChangesRowFault d)
