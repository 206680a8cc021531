-- What is printed of the end of an import, and its status.
use Rattle.std.specs.Prelude.{ℕ, List, ◌++◌, Option, Some, None, Result, Ok, Err, codes, decimal}
use Rattle.std.specs.Option.{option_map}
use Rattle.ak_csv.specs.declared.csv_faults.CsvFault.{CsvFault}
use Rattle.ak_csv.specs.declared.csv_faults.CsvFault.TheVariants as csv
use Rattle.ak_desk_texts.specs.FaultTexts.{desk_fault_text}
use Rattle.ak_imports.specs.declared.imports.Imported.{Imported}
use Rattle.ak_imports.specs.declared.imports.NotesFault.{NotesFault}
use Rattle.ak_io.specs.Scripts.{refusal_line}
use Rattle.ak_note_files.specs.declared.import_faults.ImportFault.{ImportFault}
use Rattle.ak_note_files.specs.declared.import_faults.ImportFault.TheVariants as faults

-- how many records added a note, updated one, or left one as it was
abbrev pub counts_text : Imported → List ℕ
counts_text counts =
    codes "added " ++ decimal counts.added ++ codes " updated " ++ decimal counts.updated ++ codes " same " ++ decimal counts.same

-- the record of this number breaks a rule
abbrev pub rule_text : List ℕ → ℕ → List ℕ
rule_text rule number = refusal_line (number, rule ++ codes " at " ++ decimal number)

-- rule 1 is the number of columns, rule 2 that there is a guid, rule 3 that all of it is UTF-8, and rule 4 that no note of another type
-- has the guid
abbrev pub rule_fault_text : CsvFault → Option (List ℕ)
rule_fault_text (csv.Columns number) = Some (rule_text (codes "csv fault 1") number)
rule_fault_text (csv.NoGuid number) = Some (rule_text (codes "csv fault 2") number)
rule_fault_text (csv.Csv number) = Some (rule_text (codes "csv fault 3") number)
rule_fault_text (csv.OtherType number) = Some (rule_text (codes "csv fault 4") number)
rule_fault_text csv.Memory = None

-- the note of this record is refused, by the text that a line of the desk is refused by
abbrev pub note_fault_text : NotesFault → Option (List ℕ)
note_fault_text fault = option_map (λ (why : List ℕ). refusal_line (fault.at_record, why)) (desk_fault_text fault.fault)

-- the line for the end of an import, if there is one, without a line feed
abbrev pub import_text : Result Imported ImportFault → Option (List ℕ)
import_text (Ok counts) = Some (counts_text counts)
import_text (Err faults.LongInput) = Some (refusal_line (0, codes "long input"))
import_text (Err (faults.Record fault)) = rule_fault_text fault
import_text (Err (faults.Notes fault)) = note_fault_text fault
import_text (Err faults.ReadFailed) = None
import_text (Err faults.KeeperFailed) = None
import_text (Err faults.Memory) = None

-- the status for it
abbrev pub import_status : Result Imported ImportFault → ℕ
import_status (Ok counts) = 0
import_status (Err faults.LongInput) = 3
import_status (Err (faults.Record fault)) = 3
import_status (Err (faults.Notes fault)) = 3
import_status (Err faults.ReadFailed) = 4
import_status (Err faults.KeeperFailed) = 6
import_status (Err faults.Memory) = 8
