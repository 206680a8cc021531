-- What a whole collection is in JSON.
use Rattle.std.specs.Prelude.{◌≡◌, ◌++◌, ◌&&◌, ℤ, pos, codes, List, [], ◌∷◌, Bool, true, false, if◌then◌else◌, Option, Some, None}
use Rattle.std.specs.Option.{option_map_or}
use Rattle.std.specs.Ordering.{int_eq}
use Rattle.serde_json.specs.Data.{Data, array, Items, no_items, item}
use Rattle.ak_base.specs.Rows.{name_of}
use Rattle.ak_base.specs.Tables.{stored_code}
use Rattle.ak_base.specs.declared.names.Table.{Table}
use Rattle.ak_base.specs.declared.names.Table.TheVariants as tables
use Rattle.ak_base.specs.declared.rows.Row.{Row}
use Rattle.ak_json.specs.Confs.{ReadsConf, conf_fault}
use Rattle.ak_json.specs.Faults.{Tells}
use Rattle.ak_json.specs.Rows.{ReadsRow}
use Rattle.ak_base.specs.declared.heads.Conf.{Conf}
use Rattle.ak_messages.specs.declared.requests.Whole.{Whole}
use Rattle.ak_wire.specs.Faults.{First, Then, ReadsEach, RefusesEach}
use Rattle.ak_wire.specs.Found.{HasInteger, Under, ReadsTags}
use Rattle.ak_wire.specs.Forms.{Form, upload_form, download_form}
use Rattle.ak_wire.specs.Keys.{key_text}
use Rattle.ak_wire.specs.Kinds.{is_after, number_at}
use Rattle.ak_wire.specs.Parts.{OfJson, RefusesRowOf}
use Rattle.ak_wire.specs.Values.{object_fault, integer_under, value_under, items_under, tags_under}
use Rattle.ak_wire.specs.declared.keys.Key.{Key}
use Rattle.ak_wire.specs.declared.keys.Key.TheVariants as keys
use Rattle.ak_wire.specs.declared.wire_faults.WireFault.{WireFault}
use Rattle.ak_wire.specs.declared.wire_faults.WireFault.TheVariants.{RowOrder}

-- the tables of a collection that a client brings, each with its key: no graves
abbrev pub upload_tables : List (Table × Key)
upload_tables =
    (tables.Note, keys.Notes) ∷ (tables.Card, keys.Cards) ∷ (tables.Review, keys.Revlog) ∷ (tables.NoteType, keys.Models) ∷ (tables.Deck, keys.Decks)
    ∷ (tables.Options, keys.Options) ∷ []

-- the tables of a collection that a server gives, each with its key: the graves of all kinds share one
abbrev pub download_tables : List (Table × Key)
download_tables =
    (tables.Note, keys.Notes) ∷ (tables.Card, keys.Cards) ∷ (tables.Review, keys.Revlog) ∷ (tables.NoteType, keys.Models) ∷ (tables.Deck, keys.Decks)
    ∷ (tables.Options, keys.Options) ∷ (tables.NoteGrave, keys.Graves) ∷ (tables.CardGrave, keys.Graves) ∷ (tables.DeckGrave, keys.Graves) ∷ []

-- the stored code that a grave of a list goes by: 0 for cards, 1 for notes, and 2 for decks, as one of no stored code does
abbrev pub listed_code : Option ℤ → ℤ
listed_code None = pos 2
listed_code (Some code) = if int_eq code (pos 0) then pos 0 else (if int_eq code (pos 1) then pos 1 else pos 2)

-- a value of a list goes with this table: of a list of graves, those of its code do
abbrev pub goes_with : Table → Data → Bool
goes_with table d = option_map_or (int_eq (listed_code (number_at 2 d))) (stored_code table) true

-- the values of a list that go with a table
abbrev pub items_for : Table → Items → Items
items_for table no_items = no_items
items_for table (item d ds) = if goes_with table d then item d (items_for table ds) else items_for table ds

-- the value goes with the table, but is no row of it, for this fault
abbrev pub RefusesIf : Table → Data → WireFault → Type 0
RefusesIf table d fault = (goes_with table d ≡ true) × RefusesRowOf table d fault

-- the ids of the rows ascend, the first over the one before them
abbrev pub rows_after : Option ℤ → List Row → Bool
rows_after before [] = true
rows_after before (row ∷ rows) = is_after before (name_of row).id && rows_after (Some (name_of row).id) rows

-- the rows are those of a list, and their ids ascend
pub record ReadsTable (table : Table) (ds : Items) (rows : List Row) : Type 0 where
  pub each : ReadsEach (ReadsRow table) ds rows
  pub ascending : rows_after None rows ≡ true

-- the rows are those of a list, but their ids do not ascend
pub record ReadsUnordered (table : Table) (ds : Items) (rows : List Row) : Type 0 where
  pub each : ReadsEach (ReadsRow table) ds rows
  pub unordered : rows_after None rows ≡ false

-- the first fault of a row of a list, else that their ids do not ascend
abbrev pub TableFault : Table → Items → WireFault → Type 0
TableFault table ds =
    Then {A = List Row} (RefusesEach (ReadsRow table) (RefusesRowOf table) ds) (ReadsUnordered table ds) (λ fault. fault ≡ RowOrder table)

-- the values of a table
abbrev pub table_items : Table × Key → Data → Items
table_items column d = items_for column.0 (items_under (key_text column.1) d)

-- the rows of a list that go with a table
abbrev pub ReadsRowsOf : Table → Data → List Row → Type 0
ReadsRowsOf table d rows = (ds : Items) × (d ≡ array ds) × ReadsTable table (items_for table ds) rows

-- the rows are those of these tables, one table after the other
abbrev pub ReadsTables : List (Table × Key) → Data → List Row → Type 0
ReadsTables [] d rows = rows ≡ []
ReadsTables (column ∷ columns) d rows =
    (first : List Row) × (others : List Row) × Under (key_text column.1) (ReadsRowsOf column.0) d first × ReadsTables columns d others
    × (rows ≡ first ++ others)

-- the rows are those of the lists of these tables, one after the other
abbrev pub TakesTables : List (Table × Key) → Data → List Row → Type 0
TakesTables [] d rows = rows ≡ []
TakesTables (column ∷ columns) d rows =
    (first : List Row) × (others : List Row) × ReadsTable column.0 (table_items column d) first × TakesTables columns d others × (rows ≡ first ++ others)

-- the first fault of these tables
abbrev pub TablesFault : List (Table × Key) → Data → WireFault → Type 0
TablesFault [] d fault = ⊥
TablesFault (column ∷ columns) d fault =
    Then {A = List Row} (TableFault column.0 (table_items column d)) (ReadsTable column.0 (table_items column d)) (TablesFault columns d) fault

-- rows are added: those of a table
abbrev pub AddsTable : Table → Items → List Row → List Row → Type 0
AddsTable table ds old new = (added : List Row) × ReadsTable table ds added × (new ≡ old ++ added)

-- rows are added: those of these tables
abbrev pub AddsTables : List (Table × Key) → Data → List Row → List Row → Type 0
AddsTables columns d old new = (added : List Row) × TakesTables columns d added × (new ≡ old ++ added)

-- the parts of a collection are those of an object, with the rows of these tables
pub record ReadsParts (columns : List (Table × Key)) (d : Data) (w : Whole) : Type 0 where
  pub conf : Under (codes "conf") ReadsConf d w.conf
  pub rows : ReadsTables columns d w.rows
  pub crt : HasInteger (codes "crt") d w.crt
  pub moment : HasInteger (codes "mod") d w.moment
  pub schema : HasInteger (codes "scm") d w.schema
  pub tags : Under (codes "tags") ReadsTags d w.tags

-- the parts of a collection are what an object of its form has
pub record TakesParts (columns : List (Table × Key)) (d : Data) (w : Whole) : Type 0 where
  pub conf : ReadsConf (value_under (codes "conf") d) w.conf
  pub rows : TakesTables columns d w.rows
  pub crt : w.crt ≡ integer_under (codes "crt") d
  pub moment : w.moment ≡ integer_under (codes "mod") d
  pub schema : w.schema ≡ integer_under (codes "scm") d
  pub tags : w.tags ≡ tags_under (codes "tags") d

-- the first fault of the settings, then of the rows, by table and place
abbrev pub PartsFault : List (Table × Key) → Data → WireFault → Type 0
PartsFault columns d =
    Then {A = Conf} (OfJson (Tells (conf_fault (value_under (codes "conf") d)))) (ReadsConf (value_under (codes "conf") d)) (TablesFault columns d)

-- a collection that a client brings has the usn 0
pub record ReadsUpload (d : Data) (w : Whole) : Type 0 where
  pub form : object_fault upload_form d ≡ None
  pub parts : ReadsParts upload_tables d w
  pub usn : w.usn ≡ pos 0

-- a collection that a server gives has its usn
pub record ReadsDownload (d : Data) (w : Whole) : Type 0 where
  pub form : object_fault download_form d ≡ None
  pub parts : ReadsParts download_tables d w
  pub usn : HasInteger (codes "usn") d w.usn

-- the first fault of a whole collection: of its keys, then of its parts
abbrev pub WholeFault : Form → List (Table × Key) → Data → WireFault → Type 0
WholeFault form columns d = First (object_fault form d) (PartsFault columns d)
