-- What each command of the program does, and what it leaves alone.
use Rattle.std.specs.Io.KnownBytes.{Appends, Keeps}
use Rattle.std.specs.Prelude.{◌≡◌, ◌⊎◌, ℕ, ℤ, Bool, true, false, List, Option, Some, None}
use Rattle.ak_base.specs.declared.keys.HostKey.{HostKey}
use Rattle.ak_cli.specs.Programs.{Named, Lab, Init, Desk, Sync, Upload, Download, Import, Export, Make, command_status, usage_line}
use Rattle.ak_client_wire.specs.Wires.{WireKind, WireState}
use Rattle.ak_csv_runs.specs.ExportRuns.{EndsExport}
use Rattle.ak_csv_runs.specs.FileRuns.{FileOutside, file_outside}
use Rattle.ak_csv_runs.specs.ImportRuns.{EndsImport}
use Rattle.ak_desk_runs.specs.DeskRuns.{EndsDesk}
use Rattle.ak_desk_runs.specs.Inits.{EndsInit}
use Rattle.ak_desk_runs.specs.RunStates.{Outside, outside_of}
use Rattle.ak_faults.specs.Causes.{Health}
use Rattle.ak_filters.specs.Meanings.{Meaning}
use Rattle.ak_io.specs.Arrivals.{GivesNext, IsClockMoment}
use Rattle.ak_io.specs.Scripts.{AppendsPart}
use Rattle.ak_io.specs.declared.lines.Line.{Line}
use Rattle.ak_keep.specs.Keepers.{Keeping}
use Rattle.ak_lab.specs.LabRuns.{RunsLab}
use Rattle.ak_line_runs.specs.LineRuns.{input_lines}
use Rattle.ak_line_runs.specs.declared.command_ends.CommandEnd.{CommandEnd}
use Rattle.ak_line_runs.specs.declared.command_ends.CommandEnd.TheVariants as ends
use Rattle.ak_makes.specs.MakeLines.{EndsMake}
use Rattle.ak_sync_in_memory.specs.declared.logs.Entry.{Entry}
use Rattle.ak_sync_runs.specs.SyncRuns.{EndsSync, SyncOutside, sync_outside}
use Rattle.ak_transfer_runs.specs.TransferRuns.{EndsDownload, EndsUpload}

-- what is known of what a command is given: the bytes to read, those that were written, the keeper, the wire, the moments and words of
-- chance to come, what came to a lab's server, and the filters
pub record ProgramOutside (kind : WireKind) : Type 0 where
  pub left : Option (List ℕ)
  pub written : Option (List ℕ)
  pub keeping : Keeping
  pub health : Health
  pub wire : WireState kind
  pub moments : Option (List ℤ)
  pub words : Option (List ℕ)
  pub log : List Entry
  pub filters : List Meaning

-- the same, by its parts
abbrev pub program_outside : {kind : WireKind} → Option (List ℕ) → Option (List ℕ) → Keeping → Health → WireState kind → Option (List ℤ) → Option (List ℕ)
    → List Entry → List Meaning → ProgramOutside kind
program_outside left written keeping health wire moments words log filters = record {
  left = left;
  written = written;
  keeping = keeping;
  health = health;
  wire = wire;
  moments = moments;
  words = words;
  log = log;
  filters = filters;
}

-- what a desk is given of it
abbrev pub desk_of : {kind : WireKind} → ProgramOutside kind → Outside
desk_of a = outside_of a.keeping a.filters a.moments a.words

-- what a sync is given of it
abbrev pub sync_of : {kind : WireKind} → ProgramOutside kind → SyncOutside kind
sync_of a = sync_outside a.keeping a.health a.wire a.moments a.words

-- what an import is given of it
abbrev pub import_of : {kind : WireKind} → ProgramOutside kind → FileOutside
import_of a = file_outside a.left a.keeping a.moments a.written

-- what an export is given of it: it reads nothing
abbrev pub export_of : {kind : WireKind} → ProgramOutside kind → FileOutside
export_of a = file_outside None a.keeping a.moments a.written

-- whether a command reads the input
abbrev pub reads_input : Option Named → Bool
reads_input (Some Lab) = true
reads_input (Some Init) = false
reads_input (Some Desk) = true
reads_input (Some (Sync digits)) = false
reads_input (Some (Upload digits)) = false
reads_input (Some (Download digits)) = false
reads_input (Some (Import place)) = true
reads_input (Some (Export note_type)) = false
reads_input (Some (Make seed size)) = false
reads_input None = false

-- whether a command works on the keeper's collection
abbrev pub uses_keeper : Option Named → Bool
uses_keeper (Some Lab) = false
uses_keeper (Some Init) = true
uses_keeper (Some Desk) = true
uses_keeper (Some (Sync digits)) = true
uses_keeper (Some (Upload digits)) = true
uses_keeper (Some (Download digits)) = true
uses_keeper (Some (Import place)) = true
uses_keeper (Some (Export note_type)) = true
uses_keeper (Some (Make seed size)) = false
uses_keeper None = false

-- how `lab` ends over these lines: a lab ran them, and its server's log is handed out. Or memory was out before the first of them, and
-- nothing is done
abbrev pub EndsLab : {kind : WireKind} → CommandEnd → Option (List Line) → ProgramOutside kind → ProgramOutside kind → Type 0
EndsLab end all a b =
    RunsLab end all b.log a.written b.written ⊎ (end ≡ ends.Memory) × Keeps a.written b.written × (b.log ≡ a.log)

-- how a command ends with a status. `lab` runs the lines of the input in a lab of its own, and ends with 0, 3, 4, 5 or 8; `init` puts the
-- opening collection of the next moment; `desk` does the lines of the input; `sync` syncs with the account of its key, and `upload` and
-- `download` send and fetch the whole collection, a sync and an upload over a keeper that spares memory or not; `import` takes notes from the
-- input, and `export` writes them; `make` makes a collection of its own and prints one line on it; and if there is no command, `usage` is printed
abbrev pub EndsBy : {kind : WireKind} → Bool → Option Named → ℕ → ProgramOutside kind → ProgramOutside kind → Type 0
EndsBy spares (Some Lab) status a b = (end : CommandEnd) × (status ≡ command_status end) × EndsLab end (input_lines a.left) a b
EndsBy spares (Some Init) status a b = (at : ℤ) × (end : CommandEnd)
    × IsClockMoment at × GivesNext a.moments b.moments at × EndsInit at end a.keeping b.keeping a.written b.written
    × (status ≡ command_status end)
EndsBy spares (Some Desk) status a b = (end : CommandEnd)
    × EndsDesk end (input_lines a.left) (desk_of a) (desk_of b) a.written b.written × (status ≡ command_status end)
EndsBy spares (Some (Sync digits)) status a b = (host : HostKey)
    × (host.digits ≡ digits) × EndsSync spares host status (sync_of a) (sync_of b) a.written b.written
EndsBy spares (Some (Upload digits)) status a b = (host : HostKey)
    × (host.digits ≡ digits) × EndsUpload spares host status (sync_of a) (sync_of b) a.written b.written
EndsBy spares (Some (Download digits)) status a b = (host : HostKey)
    × (host.digits ≡ digits) × EndsDownload host status (sync_of a) (sync_of b) a.written b.written
EndsBy spares (Some (Import place)) status a b = EndsImport place status (import_of a) (import_of b)
EndsBy spares (Some (Export note_type)) status a b = EndsExport note_type status (export_of a) (export_of b)
EndsBy spares (Some (Make seed size)) status a b = EndsMake seed size status a.written b.written
EndsBy spares None status a b =
    (status ≡ 2) × Appends a.written b.written usage_line ⊎ (status ≡ 5) × AppendsPart a.written b.written usage_line

-- what a sync leaves alone, and what sends or fetches the whole collection: all but what is named here
abbrev pub KeepsButSync : {kind : WireKind} → ProgramOutside kind → ProgramOutside kind → Type 0
KeepsButSync a b = b ≡ record a {
  written = b.written;
  keeping = b.keeping;
  health = b.health;
  wire = b.wire;
  moments = b.moments;
  words = b.words;
}

-- what a command leaves alone: all but what is named here. So a log that was empty stays so, but that of `lab`
abbrev pub LeavesBy : {kind : WireKind} → Option Named → ProgramOutside kind → ProgramOutside kind → Type 0
LeavesBy (Some Lab) a b = b ≡ record a { left = b.left; written = b.written; log = b.log }
LeavesBy (Some Init) a b = b ≡ record a { written = b.written; keeping = b.keeping; moments = b.moments }
LeavesBy (Some Desk) a b = b ≡ record a {
  left = b.left;
  written = b.written;
  keeping = b.keeping;
  moments = b.moments;
  words = b.words;
  filters = b.filters;
}
LeavesBy (Some (Sync digits)) a b = KeepsButSync a b
LeavesBy (Some (Upload digits)) a b = KeepsButSync a b
LeavesBy (Some (Download digits)) a b = KeepsButSync a b
LeavesBy (Some (Import place)) a b = b ≡ record a { left = b.left; written = b.written; keeping = b.keeping; moments = b.moments }
LeavesBy (Some (Export note_type)) a b = b ≡ record a { written = b.written; moments = b.moments }
LeavesBy (Some (Make seed size)) a b = b ≡ record a { written = b.written }
LeavesBy None a b = b ≡ record a { written = b.written }
