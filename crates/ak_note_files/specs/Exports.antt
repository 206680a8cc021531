-- What an export writes.
use Rattle.std.specs.Prelude.{ℕ, ℤ, List, [], Option, Some, None, Result, Ok, Err}
use Rattle.std.specs.Io.KnownBytes.{Appends, Keeps}
use Rattle.ak_csv.specs.NoteRecords.{notes_text}
use Rattle.ak_imports.specs.NotesOfTypes.{notes_of_type}
use Rattle.ak_io.specs.Scripts.{AppendsPart}
use Rattle.ak_keep.specs.Collections.{Rows}
use Rattle.ak_keep.specs.declared.keepers.KeepFault.{KeepFault}
use Rattle.ak_keep.specs.declared.keepers.KeepFault.TheVariants as keeps
use Rattle.ak_note_files.specs.Rules.{field_count}
use Rattle.ak_note_files.specs.declared.exports.ExportFault.{ExportFault}
use Rattle.ak_note_files.specs.declared.exports.ExportFault.TheVariants as faults

-- the notes of a type with this number of fields, by their ids; none if the type is not held
abbrev pub text_of_notes : Option ℕ → ℤ → Rows → List ℕ
text_of_notes None note_type held = []
text_of_notes (Some fields) note_type held = notes_text fields (notes_of_type note_type held)

-- what is written of a type
abbrev pub export_text : ℤ → Rows → List ℕ
export_text note_type held = text_of_notes (field_count note_type held) note_type held

-- the bytes are written; or a front of them, if the output failed; or nothing
abbrev pub AppendsBy : Result (Unit {0}) ExportFault → Option (List ℕ) → Option (List ℕ) → List ℕ → Type 0
AppendsBy (Ok done) old new bytes = Appends old new bytes
AppendsBy (Err faults.WriteFailed) old new bytes = AppendsPart old new bytes
AppendsBy (Err fault) old new bytes = Keeps old new

-- what the keeper's fault is for the export
abbrev pub export_fault_of : KeepFault → ExportFault
export_fault_of keeps.Failed = faults.KeeperFailed
export_fault_of keeps.Memory = faults.Memory
