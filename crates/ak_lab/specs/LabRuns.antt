-- What a run of a lab's script does and prints.
use Rattle.std.specs.Prelude.{◌≡◌, ℕ, pos, false, List, Option}
use Rattle.ak_io.specs.declared.lines.Line.{Line}
use Rattle.ak_lab.specs.LabStates.{LabState, opened_lab}
use Rattle.ak_lab.specs.LineOutcomes.{EndsAs}
use Rattle.ak_line_runs.specs.LineRuns.{IsLineRun}
use Rattle.ak_line_runs.specs.declared.command_ends.CommandEnd.{CommandEnd}
use Rattle.ak_openings.specs.Openings.{IsOpening}
use Rattle.ak_openings.specs.declared.whole_collections.Opening.{Opening}
use Rattle.ak_sync_in_memory.specs.declared.logs.Entry.{Entry}

-- the opening collection of a lab's server
abbrev pub IsLabOpening : Opening → Type 0
IsLabOpening opening = IsOpening (pos 1_700_000_000_000) false opening

-- a lab was opened and ran these lines, and this is all that came to its server
pub record RunsLab (end : CommandEnd) (all : Option (List Line)) (entries : List Entry) (old new : Option (List ℕ)) : Type 0 where
  pub opening : Opening
  pub opens : IsLabOpening opening
  pub last : LabState
  pub run : IsLineRun EndsAs end all (opened_lab opening) last old new
  pub log : entries ≡ last.server.entries
