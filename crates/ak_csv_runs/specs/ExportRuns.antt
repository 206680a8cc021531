-- How `export` ends: what it writes, and the status that it answers.
use Rattle.std.specs.Prelude.{◌≡◌, ◌⊎◌, ℕ, ℤ, ◌==◌, ◌||◌, Bool, true, false, IfErr, Result, Ok, Err, codes}
use Rattle.std.specs.Io.KnownBytes.{Keeps}
use Rattle.ak_csv_runs.specs.FileRuns.{FileOutside}
use Rattle.ak_io.specs.Arrivals.{GivesNext, IsClockMoment}
use Rattle.ak_keep.specs.Keepers.{WhereTold}
use Rattle.ak_note_files.specs.Exports.{AppendsBy, export_text}
use Rattle.ak_note_files.specs.declared.exports.ExportFault.{ExportFault}
use Rattle.ak_note_files.specs.declared.exports.ExportFault.TheVariants as faults
use Rattle.ak_sync_runs.specs.SyncRuns.{EndsPrinting}

-- the status for the end of an export
abbrev pub export_status : Result (Unit {0}) ExportFault → ℕ
export_status (Ok done) = 0
export_status (Err faults.WriteFailed) = 5
export_status (Err faults.KeeperFailed) = 6
export_status (Err faults.Memory) = 8

-- an export took a moment, and came to an end: what is held of the type is written, if it is told, or a front of it, or nothing
pub record IsExportRun (note_type : ℤ) (status : ℕ) (a b : FileOutside) : Type 0 where
  pub at : ℤ
  pub given : GivesNext a.moments b.moments at
  pub end : Result (Unit {0}) ExportFault
  pub moment : IsClockMoment at
  pub written : WhereTold a.keeping (λ h. AppendsBy end a.written b.written (export_text note_type h.rows))
  pub nothing : IfErr end (λ fault. (fault ≡ faults.WriteFailed) ⊎ Keeps a.written b.written)
  pub is : status ≡ export_status end

-- the same, by whether a collection is held. If none is, `no collection` is printed, and the status is 3
abbrev pub EndsExportOn : Bool → ℤ → ℕ → FileOutside → FileOutside → Type 0
EndsExportOn true note_type status a b = IsExportRun note_type status a b
EndsExportOn false note_type status a b =
    (b ≡ record a { written = b.written }) × EndsPrinting (codes "no collection") 3 status a.written b.written

-- how `export` ends for the type of this id
abbrev pub EndsExport : ℤ → ℕ → FileOutside → FileOutside → Type 0
EndsExport note_type status a b = EndsExportOn a.keeping.headed.current note_type status a b

-- the statuses with which `export` ends
abbrev pub is_export_status : ℕ → Bool
is_export_status status = (status == 0) || (status == 3) || (status == 5) || (status == 6) || (status == 8)
