-- How `import` ends: what it leaves, what it prints, and the status that it answers.
use Rattle.std.specs.Io.KnownBytes.{Keeps}
use Rattle.std.specs.Prelude.{◌≡◌, ◌⊎◌, ℕ, ℤ, ◌==◌, ◌||◌, Bool, true, false, List, [], Option, Some, None, Result, Ok, Err, codes}
use Rattle.ak_csv_runs.specs.FileRuns.{FileOutside}
use Rattle.ak_csv_runs.specs.ImportTexts.{import_status, import_text}
use Rattle.ak_imports.specs.declared.imports.Imported.{Imported}
use Rattle.ak_io.specs.Arrivals.{GivesNext, IsClockMoment}
use Rattle.ak_note_files.specs.Imports.{EndsInput, Imports, StopsImport}
use Rattle.ak_note_files.specs.declared.import_faults.ImportFault.{ImportFault}
use Rattle.ak_note_files.specs.declared.import_faults.ImportFault.TheVariants as faults
use Rattle.ak_note_files.specs.declared.places.ImportPlace.{ImportPlace}
use Rattle.ak_sync_runs.specs.SyncRuns.{EndsPrinting, EndsUntold}
use Rattle.ak_undo.specs.declared.steps.Step.{Step}

-- whether nothing is printed of the end of an import: the input or the keeper failed, or memory was out
abbrev pub has_no_line : Result Imported ImportFault → Bool
has_no_line (Ok counts) = false
has_no_line (Err faults.LongInput) = false
has_no_line (Err (faults.Record fault)) = false
has_no_line (Err (faults.Notes fault)) = false
has_no_line (Err faults.ReadFailed) = true
has_no_line (Err faults.KeeperFailed) = true
has_no_line (Err faults.Memory) = true

-- what is printed of the end of an import, and its status: the line for it, if there is one, and else nothing. Memory may be out for the
-- line, but never where none is printed
abbrev pub TellsImport : Result Imported ImportFault → ℕ → Option (List ℕ) → Option (List ℕ) → Type 0
TellsImport end status old new =
    ((text : List ℕ) × (import_text end ≡ Some text) × EndsPrinting text (import_status end) status old new)
    ⊎ (((import_text end ≡ None) × (status ≡ import_status end) × Keeps old new)
    ⊎ ((has_no_line end ≡ false) × EndsUntold status old new))

-- what an import leaves at this moment, by its end: the whole input was taken, or all is as it was, and there is a reason
abbrev pub ComesTo : ImportPlace → ℤ → FileOutside → FileOutside → Result Imported ImportFault → Type 0
ComesTo place at a b (Ok counts) =
    (later : List Step) × Imports place at a.left a.keeping b.keeping [] later counts
ComesTo place at a b (Err fault) = (b.keeping ≡ a.keeping) × StopsImport place at a.left a.keeping fault

-- an import at the next moment came to an end, which was told
pub record IsImportRun (place : ImportPlace) (status : ℕ) (a b : FileOutside) : Type 0 where
  pub at : ℤ
  pub moment : IsClockMoment at
  pub given : GivesNext a.moments b.moments at
  pub end : Result Imported ImportFault
  pub comes : ComesTo place at a b end
  pub input : EndsInput end b.left
  pub told : TellsImport end status a.written b.written

-- the same, by whether a collection is held. If none is, `no collection` is printed, and the status is 3. Memory may run out before
-- anything is read
abbrev pub EndsImportOn : Bool → ImportPlace → ℕ → FileOutside → FileOutside → Type 0
EndsImportOn true place status a b =
    IsImportRun place status a b ⊎ (b ≡ record a { written = b.written }) × EndsUntold status a.written b.written
EndsImportOn false place status a b =
    (b ≡ record a { written = b.written }) × EndsPrinting (codes "no collection") 3 status a.written b.written

-- how `import` ends for notes that go there
abbrev pub EndsImport : ImportPlace → ℕ → FileOutside → FileOutside → Type 0
EndsImport place status a b = EndsImportOn a.keeping.headed.current place status a b

-- the statuses with which `import` ends
abbrev pub is_import_status : ℕ → Bool
is_import_status status =
    (status == 0) || (status == 3) || (status == 4) || (status == 5) || (status == 6) || (status == 8)
