-- How an import ends.
use Rattle.std.proofs.Common.{◌≡◌, true, ℤ, ℕ, List, [], Result, Ok, Err, IfOk, IfErr, OnErr, inl, refl, subst, None}
use Rattle.ak_csv_runs.specs.FileRuns.{FileOutside}
use Rattle.ak_csv_runs.specs.ImportRuns.{ComesTo, EndsImport, EndsImportOn, IsImportRun, has_no_line}
use Rattle.ak_csv_runs.specs.ImportTexts.{import_text}
use Rattle.ak_imports.specs.declared.imports.Imported.{Imported}
use Rattle.ak_note_files.specs.Imports.{Imports, StopsImport}
use Rattle.ak_note_files.specs.declared.import_faults.ImportFault.{ImportFault}
use Rattle.ak_note_files.specs.declared.import_faults.ImportFault.TheVariants as faults
use Rattle.ak_note_files.specs.declared.places.ImportPlace.{ImportPlace}
use Rattle.ak_undo.specs.declared.steps.Step.{Step}

-- over a keeper that holds a collection, a run of an import is how it ends
pub ran : (place : ImportPlace) (status : ℕ) (a b : FileOutside) → true ≡ a.keeping.headed.current → IsImportRun place status a b
    → EndsImport place status a b
ran place status a b held run = subst (λ h. EndsImportOn h place status a b) held (inl run)

-- an end of which nothing is printed has no line
pub no_line : (end : Result Imported ImportFault) → has_no_line end ≡ true → import_text end ≡ None
no_line (Ok counts) is = cc is
no_line (Err faults.LongInput) is = cc is
no_line (Err (faults.Record fault)) is = cc is
no_line (Err (faults.Notes fault)) is = cc is
no_line (Err faults.ReadFailed) is = refl
no_line (Err faults.KeeperFailed) is = refl
no_line (Err faults.Memory) is = refl

-- what its end tells of what it leaves
pub comes : (place : ImportPlace) (at : ℤ) (a b : FileOutside) (before later : List Step) (end : Result Imported ImportFault) → before ≡ []
    → IfOk end (λ counts. Imports place at a.left a.keeping b.keeping before later counts)
    → IfErr end (StopsImport place at a.left a.keeping) → OnErr end (b.keeping ≡ a.keeping) → ComesTo place at a b end
comes place at a b before later (Ok counts) none ok refused same =
    (later, subst (λ steps. Imports place at a.left a.keeping b.keeping steps later counts) none ok)
comes place at a b before later (Err fault) none ok refused same = (same, refused)
