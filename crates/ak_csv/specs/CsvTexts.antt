-- What a text of CSV is read as.
use Rattle.std.specs.Prelude.{◌≡◌, ℕ, Bool, List, map, Option, Some, None}
use Rattle.csv.specs.Reading.{AreRecords, default_config, strip_bom}
use Rattle.csv.specs.declared.parser.State.TheVariants as states
use Rattle.ak_csv.specs.RecordRows.{Columns, record_of, rows_fault}
use Rattle.ak_csv.specs.declared.csv_faults.CsvFault.{CsvFault}
use Rattle.ak_imports.specs.declared.records.Record.{Record}

-- these are the rows of the text, after a byte order mark if it begins with one: commas between columns, quotes, and a line's end of
-- LF, CR or both; an empty line is no row
abbrev pub AreRows : List ℕ → List Columns → Type 0
AreRows text rows = AreRecords default_config states.StartRecord (strip_bom text) rows

-- the text is read as these records, none of which breaks a rule
pub record IsReadAs (fields : Option ℕ) (is_other : List ℕ → Bool) (text : List ℕ) (records : List Record) : Type 0 where
  pub rows : List Columns
  pub read : AreRows text rows
  pub faultless : rows_fault fields is_other 1 rows ≡ None
  pub are : records ≡ map record_of rows

-- a record of the text breaks a rule, and this is the first fault
pub record IsRefusedFor (fields : Option ℕ) (is_other : List ℕ → Bool) (text : List ℕ) (fault : CsvFault) : Type 0 where
  pub rows : List Columns
  pub read : AreRows text rows
  pub first : rows_fault fields is_other 1 rows ≡ Some fault
