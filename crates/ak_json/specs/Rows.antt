-- Rows as JSON, both ways.
use Rattle.std.specs.Prelude.{◌≡◌, false, if◌then◌else◌, Option, Some, None, option_map, Result, Ok, Err}
use Rattle.std.specs.Option.{option_or, option_map_or}
use Rattle.std.specs.Ordering.{int_eq}
use Rattle.serde_json.specs.Data.{Data}
use Rattle.ak_json.specs.Arrays.{note_at, card_at, review_at, grave_at}
use Rattle.ak_json.specs.Decks.{IsDeck, deck_json}
use Rattle.ak_json.specs.Faults.{told}
use Rattle.ak_json.specs.FormFaults.{array_form_fault}
use Rattle.ak_json.specs.Groups.{IsOptions, options_kept, options_json}
use Rattle.ak_json.specs.NoteTypes.{IsNoteType, note_type_json}
use Rattle.ak_json.specs.Objects.{object_form_fault}
use Rattle.ak_json.specs.Rests.{deep_fault, deep_key}
use Rattle.ak_json.specs.Versions.{version_of, whole_form, longest_step, in_seconds}
use Rattle.ak_json.specs.Written.{note_json, card_json, review_json, grave_json}
use Rattle.ak_json.specs.declared.faults.JsonFault.{JsonFault}
use Rattle.ak_json.specs.declared.faults.JsonFault.TheVariants as faults
use Rattle.ak_json.specs.declared.form_faults.FormFault.{FormFault}
use Rattle.ak_json.specs.Forms.{note_form, card_form, review_form, grave_form, note_type_form, deck_form}
use Rattle.ak_base.specs.Columns.{first_fault}
use Rattle.ak_base.specs.OptionGroups.{options_faults_by}
use Rattle.ak_base.specs.Rows.{check_of}
use Rattle.ak_base.specs.Tables.{stored_code}
use Rattle.ak_base.specs.declared.errors.RowFault.{RowFault}
use Rattle.ak_base.specs.declared.errors.RowFault.TheVariants.{BadCode}
use Rattle.ak_base.specs.declared.graves.Grave.{Grave}
use Rattle.ak_base.specs.declared.names.Table.{Table}
use Rattle.ak_base.specs.declared.names.Table.TheVariants as tables
use Rattle.ak_base.specs.declared.rows.Row.{Row}
use Rattle.ak_base.specs.declared.rows.Row.TheVariants as rows

-- the first fault of the known columns of a row of a table
abbrev pub row_form_fault : Table → Data → Option FormFault
row_form_fault tables.Note d = array_form_fault note_form d
row_form_fault tables.Card d = array_form_fault card_form d
row_form_fault tables.Review d = array_form_fault review_form d
row_form_fault tables.NoteType d = object_form_fault note_type_form d
row_form_fault tables.Deck d = object_form_fault deck_form d
row_form_fault tables.Options d = object_form_fault (whole_form (version_of d)) d
row_form_fault tables.NoteGrave d = array_form_fault grave_form d
row_form_fault tables.CardGrave d = array_form_fault grave_form d
row_form_fault tables.DeckGrave d = array_form_fault grave_form d

-- the fault of the first unknown key that has one
abbrev pub deep_in : Table → Data → Option JsonFault
deep_in tables.Note d = None
deep_in tables.Card d = None
deep_in tables.Review d = None
deep_in tables.NoteType d = deep_key note_type_form d
deep_in tables.Deck d = deep_key deck_form d
deep_in tables.Options d = deep_fault (options_kept d)
deep_in tables.NoteGrave d = None
deep_in tables.CardGrave d = None
deep_in tables.DeckGrave d = None

-- the fault of a value that has not the form of a row of the table: of a known column, else of an unknown key
abbrev pub form_refusal : Table → Data → Option JsonFault
form_refusal table d = option_or (option_map told (row_form_fault table d)) (deep_in table d)

-- the row is that of a value of its form
abbrev pub IsRowIn : Data → Row → Type 0
IsRowIn d (rows.Note n) = n ≡ note_at d
IsRowIn d (rows.Card c) = c ≡ card_at d
IsRowIn d (rows.Review r) = r ≡ review_at d
IsRowIn d (rows.NoteType n) = IsNoteType d n
IsRowIn d (rows.Deck k) = IsDeck d k
IsRowIn d (rows.Options o) = IsOptions d o
IsRowIn d (rows.Grave g) = g ≡ grave_at d

-- the row is of a kind that stands in the table
abbrev pub StandsIn : Table → Row → Type 0
StandsIn tables.Note (rows.Note n) = Unit {0}
StandsIn tables.Card (rows.Card c) = Unit {0}
StandsIn tables.Review (rows.Review r) = Unit {0}
StandsIn tables.NoteType (rows.NoteType n) = Unit {0}
StandsIn tables.Deck (rows.Deck k) = Unit {0}
StandsIn tables.Options (rows.Options o) = Unit {0}
StandsIn tables.NoteGrave (rows.Grave g) = Unit {0}
StandsIn tables.CardGrave (rows.Grave g) = Unit {0}
StandsIn tables.DeckGrave (rows.Grave g) = Unit {0}
StandsIn table row = ⊥

-- the row of the table that a value of its form stands for
abbrev pub IsRow : Table → Data → Row → Type 0
IsRow table d row = StandsIn table row × IsRowIn d row

-- a grave stands in the table of the graves with its code
abbrev pub code_check : Table → Grave → Result (Unit {0}) RowFault
code_check table g = if option_map_or (int_eq g.kind) (stored_code table) false then Ok tt else Err (BadCode 2 g.kind)

-- a row stands in its own table of graves, if it is a grave
abbrev pub table_check : Table → Row → Result (Unit {0}) RowFault
table_check table (rows.Grave g) = code_check table g
table_check table row = Ok tt

-- the first fault of two checks
abbrev pub checked_then : Result (Unit {0}) RowFault → Result (Unit {0}) RowFault → Result (Unit {0}) RowFault
checked_then (Ok good) later = later
checked_then (Err fault) later = Err fault

-- the first column that is out of its range; then the code of a grave of another table
abbrev pub row_check : Table → Row → Result (Unit {0}) RowFault
row_check table row = checked_then (check_of row) (table_check table row)

-- the first column of what a value stands for that is out of its range, with the steps in the unit of the value's version
abbrev pub stored_check_of : Data → Row → Result (Unit {0}) RowFault
stored_check_of d (rows.Options o) = first_fault (options_faults_by (longest_step (version_of d)) o)
stored_check_of d row = check_of row

-- and then the code of a grave of another table
abbrev pub stored_check : Table → Data → Row → Result (Unit {0}) RowFault
stored_check table d row = checked_then (stored_check_of d row) (table_check table row)

-- the row, with its steps in seconds
abbrev pub kept_row : Data → Row → Row
kept_row d (rows.Options o) = rows.Options (in_seconds (version_of d) o)
kept_row d row = row

-- the value has the form of a row of the table, what it stands for is in its ranges, and the row is that with its steps in seconds
pub record ReadsRow (table : Table) (d : Data) (row : Row) : Type 0 where
  pub form : form_refusal table d ≡ None
  pub stands : StandsIn table row
  pub stored : Row
  pub is : IsRow table d stored
  pub good : stored_check table d stored ≡ Ok tt
  pub kept : row ≡ kept_row d stored

-- the value has the form, and what it stands for has a column out of its range
pub record MissesRange (table : Table) (d : Data) (fault : RowFault) (row : Row) : Type 0 where
  pub form : form_refusal table d ≡ None
  pub is : IsRow table d row
  pub bad : stored_check table d row ≡ Err fault

-- the fault is that of the form, or of a range where the form has none, or memory was out
abbrev pub RefusesRow : Table → Data → JsonFault → Type 0
RefusesRow table d faults.NotJson = ⊥
RefusesRow table d (faults.Missing text) = form_refusal table d ≡ Some (faults.Missing text)
RefusesRow table d (faults.WrongKind text) = form_refusal table d ≡ Some (faults.WrongKind text)
RefusesRow table d (faults.Row fault) = (row : Row) × MissesRange table d fault row
RefusesRow table d faults.Memory = Unit {0}

-- the one value that is written for a row
abbrev pub row_json : Row → Data
row_json (rows.Note n) = note_json n
row_json (rows.Card c) = card_json c
row_json (rows.Review r) = review_json r
row_json (rows.NoteType n) = note_type_json n
row_json (rows.Deck k) = deck_json k
row_json (rows.Options o) = options_json o
row_json (rows.Grave g) = grave_json g
