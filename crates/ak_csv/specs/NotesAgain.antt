-- Notes that are read again as they were written.
use Rattle.std.specs.Prelude.{◌≡◌, ⊤, ℕ, ◌==◌, Bool, true, false, List, [], ◌∷◌, length, map, Some}
use Rattle.std.specs.List.{AllByRecursion, list_all}
use Rattle.std.specs.Str.{is_utf8}
use Rattle.csv.specs.Reading.{strip_bom}
use Rattle.ak_base.specs.NoteTexts.{fields_in, tags_in}
use Rattle.ak_base.specs.declared.notes.Note.{Note}
use Rattle.ak_csv.specs.CsvTexts.{AreRows, IsReadAs}
use Rattle.ak_csv.specs.NoteRecords.{columns_of, notes_text}
use Rattle.ak_csv.specs.RecordRows.{Columns}
use Rattle.ak_imports.specs.declared.records.Record.{Record}

-- a note as a record has it
abbrev pub record_of_note : Note → Record
record_of_note note = record { guid = note.guid; tags = tags_in note.tags; fields = fields_in note.flds }

-- a note that can be read again: it has as many fields as its type, a guid, which is that of no note of another type, and is UTF-8
pub record IsReadable (fields : ℕ) (is_other : List ℕ → Bool) (note : Note) : Type 0 where
  pub counted : length (fields_in note.flds) ≡ fields
  pub named : (length note.guid == 0) ≡ false
  pub own : is_other note.guid ≡ false
  pub text : list_all is_utf8 (columns_of fields note) ≡ true

-- the first guid does not begin with a byte order mark, which a reader would take off
abbrev pub BeginsPlainly : List Note → Type 0
BeginsPlainly [] = ⊤
BeginsPlainly (note ∷ notes) = strip_bom note.guid ≡ note.guid

-- notes that are written are read again with their guids, tags and fields, in their order
abbrev pub AreReadAgain : Type 0
AreReadAgain = (fields : ℕ) (is_other : List ℕ → Bool) (notes : List Note)
    → AllByRecursion (IsReadable fields is_other) notes → BeginsPlainly notes
    → IsReadAs (Some fields) is_other (notes_text fields notes) (map record_of_note notes)

-- a text has only one list of rows
abbrev pub HasOneReading : Type 0
HasOneReading = (text : List ℕ) (rows others : List Columns) → AreRows text rows → AreRows text others → rows ≡ others
