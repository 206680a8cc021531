-- What an import takes of its input, what it makes of it, and why it is refused.
use Rattle.std.specs.Prelude.{◌≡◌, ◌<◌, ◌≤◌, ⊤, ℕ, ℤ, Bool, List, length, Option, IfSome, Result, Ok, Err}
use Rattle.std.specs.Io.KnownBytes.{IsAtEnd}
use Rattle.ak_csv.specs.CsvTexts.{IsReadAs, IsRefusedFor}
use Rattle.ak_csv.specs.declared.csv_faults.CsvFault.{CsvFault}
use Rattle.ak_csv.specs.declared.csv_faults.CsvFault.TheVariants as csv
use Rattle.ak_edit.specs.Refusals.{IsFromOutside}
use Rattle.ak_edit.specs.declared.desk_faults.DeskFault.{DeskFault}
use Rattle.ak_edit.specs.declared.desk_faults.DeskFault.TheVariants as desks
use Rattle.ak_imports.specs.Imports.{DoesImport, RefusesImport}
use Rattle.ak_imports.specs.declared.imports.Import.{Import}
use Rattle.ak_imports.specs.declared.imports.Imported.{Imported}
use Rattle.ak_imports.specs.declared.imports.NotesFault.{NotesFault}
use Rattle.ak_imports.specs.declared.records.Record.{Record}
use Rattle.ak_keep.specs.Keepers.{Keeping, WhereTold}
use Rattle.ak_keep.specs.declared.keepers.KeepFault.{KeepFault}
use Rattle.ak_keep.specs.declared.keepers.KeepFault.TheVariants as keeps
use Rattle.ak_note_files.specs.Rules.{AreRulesFor}
use Rattle.ak_note_files.specs.declared.import_faults.ImportFault.{ImportFault}
use Rattle.ak_note_files.specs.declared.import_faults.ImportFault.TheVariants as faults
use Rattle.ak_note_files.specs.declared.inputs.InputFault.{InputFault}
use Rattle.ak_note_files.specs.declared.inputs.InputFault.TheVariants as inputs
use Rattle.ak_note_files.specs.declared.places.ImportPlace.{ImportPlace}
use Rattle.ak_undo.specs.declared.steps.Step.{Step}

-- ---- the input
-- the whole input is this text, if it is told, and it has at most 1,073,741,824 bytes
abbrev pub IsInput : Option (List ℕ) → List ℕ → Type 0
IsInput left text = IfSome left (λ bytes. (bytes ≡ text) × (length bytes ≤ 1_073_741_824))

-- the rules for records of a type in what is held, if it is told
abbrev pub AreRulesIn : ℤ → Keeping → Option ℕ → (List ℕ → Bool) → Type 0
AreRulesIn note_type k fields is_other = WhereTold k (λ h. AreRulesFor note_type h.rows fields is_other)

-- the input is read as these records, none of which breaks a rule
pub record ReadsRecords (note_type : ℤ) (left : Option (List ℕ)) (k : Keeping) (records : List Record) : Type 0 where
  pub text : List ℕ
  pub fields : Option ℕ
  pub is_other : List ℕ → Bool
  pub input : IsInput left text
  pub rules : AreRulesIn note_type k fields is_other
  pub read : IsReadAs fields is_other text records

-- a record of the input breaks a rule, and this is the first fault
pub record RefusesRecords (note_type : ℤ) (left : Option (List ℕ)) (k : Keeping) (fault : CsvFault) : Type 0 where
  pub text : List ℕ
  pub fields : Option ℕ
  pub is_other : List ℕ → Bool
  pub input : IsInput left text
  pub rules : AreRulesIn note_type k fields is_other
  pub first : IsRefusedFor fields is_other text fault

-- ---- the import
-- what is given to take these records
abbrev pub import_of : ImportPlace → List Record → Import
import_of place records = record { note_type = place.note_type; deck = place.deck; records = records }

-- the whole input was read as records, and they were taken
pub record Imports (place : ImportPlace) (at : ℤ) (left : Option (List ℕ)) (before after : Keeping) (steps later : List Step) (counts : Imported) : Type 0 where
  pub records : List Record
  pub read : ReadsRecords place.note_type left before records
  pub done : DoesImport at (import_of place records) before after steps later counts

-- the input is longer than an input may be, if it is told
abbrev pub IsTooLong : Option (List ℕ) → Type 0
IsTooLong left = IfSome left (λ bytes. 1_073_741_824 < length bytes)

-- why no records are read of an input
abbrev pub StopsReading : ℤ → Option (List ℕ) → Keeping → ImportFault → Type 0
StopsReading note_type left k faults.LongInput = IsTooLong left
StopsReading note_type left k (faults.Record fault) = RefusesRecords note_type left k fault
StopsReading note_type left k (faults.Notes fault) = ⊥
StopsReading note_type left k faults.ReadFailed = ⊤
StopsReading note_type left k faults.KeeperFailed = ⊤
StopsReading note_type left k faults.Memory = ⊤

-- the records were read, and this is the first whose note can't be added or updated
pub record RefusesNotes (place : ImportPlace) (at : ℤ) (left : Option (List ℕ)) (k : Keeping) (fault : NotesFault) : Type 0 where
  pub records : List Record
  pub read : ReadsRecords place.note_type left k records
  pub first : RefusesImport at (import_of place records) k fault

-- why an import is refused: its input is too long, or else a record of it breaks a rule, or else the note of a record is refused. Or an
-- end to the outside failed, or memory is out
abbrev pub StopsImport : ImportPlace → ℤ → Option (List ℕ) → Keeping → ImportFault → Type 0
StopsImport place at left k (faults.Notes fault) = (IsFromOutside fault.fault → ⊥) × RefusesNotes place at left k fault
StopsImport place at left k fault = StopsReading place.note_type left k fault

-- the input is read to its end, if it is all taken, and also if a record of it or a record's note is refused
abbrev pub EndsInput : {T : Type 0} → Result T ImportFault → Option (List ℕ) → Type 0
EndsInput (Ok value) left = IsAtEnd left
EndsInput (Err (faults.Record fault)) left = IsAtEnd left
EndsInput (Err (faults.Notes fault)) left = IsAtEnd left
EndsInput (Err fault) left = ⊤

-- what a fault of the input is for the import
abbrev pub input_fault_as : InputFault → ImportFault
input_fault_as inputs.TooLong = faults.LongInput
input_fault_as inputs.Failed = faults.ReadFailed
input_fault_as inputs.Memory = faults.Memory

-- what the keeper's fault is for it
abbrev pub import_fault_of : KeepFault → ImportFault
import_fault_of keeps.Failed = faults.KeeperFailed
import_fault_of keeps.Memory = faults.Memory

-- what a fault of records is for it: out of memory is none of a record
abbrev pub record_fault_as : CsvFault → ImportFault
record_fault_as csv.Memory = faults.Memory
record_fault_as fault = faults.Record fault

-- the fault of a record's note, by what the desk says
abbrev pub desk_fault_as : NotesFault → DeskFault → ImportFault
desk_fault_as whole desks.Failed = faults.KeeperFailed
desk_fault_as whole desks.Memory = faults.Memory
desk_fault_as whole fault = faults.Notes whole

-- what a fault of notes is for it: a keeper that failed, and out of memory, are none of a note
abbrev pub notes_fault_as : NotesFault → ImportFault
notes_fault_as fault = desk_fault_as fault fault.fault
