-- The record that a note is written as.
use Rattle.std.specs.Prelude.{ℕ, suc, zero, List, [], ◌∷◌, codes}
use Rattle.std.specs.List.{flat_map, join_by}
use Rattle.csv.specs.Writing.{default_writer, row_text}
use Rattle.ak_base.specs.NoteTexts.{fields_in, tags_in}
use Rattle.ak_base.specs.declared.notes.Note.{Note}
use Rattle.ak_csv.specs.RecordRows.{Columns}

-- exactly so many columns: missing ones are empty, and surplus ones are left out
abbrev pub fitted : ℕ → List (List ℕ) → List (List ℕ)
fitted zero columns = []
fitted (suc count) [] = [] ∷ fitted count []
fitted (suc count) (column ∷ columns) = column ∷ fitted count columns

-- the tags with one space between, in the order in which they are stored
abbrev pub tags_column : Note → List ℕ
tags_column note = join_by (λ (tag : List ℕ). tag) (codes " ") (tags_in note.tags)

-- a note's columns: its guid, its tags, and as many fields as its type has
abbrev pub columns_of : ℕ → Note → Columns
columns_of fields note = note.guid ∷ tags_column note ∷ fitted fields (fields_in note.flds)

-- the bytes of a note: columns with a comma, a quote, CR or LF in them are quoted, and a line feed ends the record
abbrev pub note_text : ℕ → Note → List ℕ
note_text fields note = row_text default_writer (columns_of fields note)

-- the bytes of notes
abbrev pub notes_text : ℕ → List Note → List ℕ
notes_text fields notes = flat_map (note_text fields) notes
