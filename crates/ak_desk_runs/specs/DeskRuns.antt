-- What a run of desk lines does and prints.
use Rattle.std.specs.Prelude.{◌≡◌, ℕ, Bool, true, false, List, Option, codes}
use Rattle.ak_desk_runs.specs.LineOutcomes.{DeskEnds}
use Rattle.ak_desk_runs.specs.RunStates.{Outside, RunState, begun, outside_in}
use Rattle.ak_io.specs.declared.lines.Line.{Line}
use Rattle.ak_line_runs.specs.CommandEnds.{IsRefusedWith}
use Rattle.ak_line_runs.specs.LineRuns.{IsLineRun}
use Rattle.ak_line_runs.specs.declared.command_ends.CommandEnd.{CommandEnd}

-- a run of lines that ends so, from what it was given to what that is after it, and what is written before and after it
pub record IsDeskRun (end : CommandEnd) (all : Option (List Line)) (before after : Outside)
    (old new : Option (List ℕ)) : Type 0 where
  -- what the run was at its end
  pub last : RunState
  pub run : IsLineRun DeskEnds end all (begun before) last old new
  pub outside : after ≡ outside_in last

-- how `desk` ends, by whether a collection is held
abbrev pub EndsDeskOn : Bool → CommandEnd → Option (List Line) → Outside → Outside → Option (List ℕ) → Option (List ℕ)
    → Type 0
EndsDeskOn true end all before after old new = IsDeskRun end all before after old new
EndsDeskOn false end all before after old new = (after ≡ before) × IsRefusedWith (codes "no collection") end old new

-- how `desk` ends over these lines
abbrev pub EndsDesk : CommandEnd → Option (List Line) → Outside → Outside → Option (List ℕ) → Option (List ℕ) → Type 0
EndsDesk end all before after old new = EndsDeskOn before.keeping.headed.current end all before after old new
