-- The rows of a text, the rules that a row keeps, and the record that it is.
use Rattle.std.specs.Prelude.{◌≡◌, ℕ, ◌+◌, ◌==◌, Bool, true, false, not, if◌then◌else◌, nat_le, List, [], ◌∷◌, length, drop, Option, Some, None}
use Rattle.std.specs.List.{list_all, slice_split}
use Rattle.std.specs.Option.{option_or}
use Rattle.std.specs.Str.{is_utf8}
use Rattle.ak_csv.specs.declared.csv_faults.CsvFault.{CsvFault}
use Rattle.ak_csv.specs.declared.csv_faults.CsvFault.TheVariants as faults
use Rattle.ak_imports.specs.declared.records.Record.{Record}

-- the columns of a record
abbrev pub Columns : Type 0
Columns = List (List ℕ)

-- a row's guid is its first column
abbrev pub guid_of : Columns → List ℕ
guid_of [] = []
guid_of (guid ∷ columns) = guid

-- the tags are between spaces; an empty column has none
abbrev pub tags_between : List ℕ → List (List ℕ)
tags_between column = if length column == 0 then [] else slice_split (λ byte. byte == 32) column

-- the tags of a row are in its second column
abbrev pub tags_of : Columns → List (List ℕ)
tags_of [] = []
tags_of (guid ∷ []) = []
tags_of (guid ∷ tags ∷ fields) = tags_between tags

-- the record of a row
abbrev pub record_of : Columns → Record
record_of row = record { guid = guid_of row; tags = tags_of row; fields = drop 2 row }

-- a row has a column for each field beside guid and tags; of a type that is not held no more is known
abbrev pub has_columns : Option ℕ → ℕ → Bool
has_columns (Some fields) columns = columns == fields + 2
has_columns None columns = nat_le 2 columns

-- a row has the right number of columns, and a guid
pub record IsShaped (fields : Option ℕ) (row : Columns) : Type 0 where
  pub columns : has_columns fields (length row) ≡ true
  pub named : (length (guid_of row) == 0) ≡ false

-- the first rule that the row of this number breaks, by the type's number of fields and by whether a note of another type has a guid
abbrev pub row_fault : Option ℕ → (List ℕ → Bool) → ℕ → Columns → Option CsvFault
row_fault fields is_other number row =
    if not (has_columns fields (length row)) then Some (faults.Columns number)
    else if length (guid_of row) == 0 then Some (faults.NoGuid number)
    else if not (list_all is_utf8 row) then Some (faults.Csv number)
    else if is_other (guid_of row) then Some (faults.OtherType number)
    else None

-- the fault of the first of these rows that has one, the first of them having this number
abbrev pub rows_fault : Option ℕ → (List ℕ → Bool) → ℕ → List Columns → Option CsvFault
rows_fault fields is_other number [] = None
rows_fault fields is_other number (row ∷ rows) =
    option_or (row_fault fields is_other number row) (rows_fault fields is_other (number + 1) rows)
