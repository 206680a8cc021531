-- The text of an export.
use Rattle.std.proofs.Common.{◌≡◌, ℕ, ℤ, List, Option, Some, None, IfSome, ap, sym, ◌∙◌}
use Rattle.ak_base.specs.declared.notes.Note.{Note}
use Rattle.ak_csv.specs.NoteRecords.{notes_text}
use Rattle.ak_imports.specs.NotesOfTypes.{notes_of_type}
use Rattle.ak_keep.specs.Collections.{Holding}
use Rattle.ak_keep.specs.Marks.{WithMark}
use Rattle.ak_note_files.specs.Exports.{export_text, text_of_notes}
use Rattle.ak_note_files.specs.Rules.{field_count}

-- the records of the notes that are held, of a type that is held
pub exported : (told : Option (WithMark Holding)) (note_type : ℤ) (count : Option ℕ) (fields : ℕ) (notes : List Note) (text : List ℕ)
    → IfSome told (λ w. count ≡ field_count note_type w.current.rows) → count ≡ Some fields → IfSome told (λ w. notes ≡ notes_of_type note_type w.current.rows)
    → text ≡ notes_text fields notes → IfSome told (λ w. text ≡ export_text note_type w.current.rows)
exported None note_type count fields notes text counted some listed is = tt
exported (Some w) note_type count fields notes text counted some listed is =
    is ∙ ap (notes_text fields) listed ∙ ap (λ f. text_of_notes f note_type w.current.rows) (sym some ∙ counted)
