-- A run of desk lines, out of that of its lines.
use Rattle.std.proofs.Common.{ℕ, ◌+◌, List, Option, refl, inl, inr}
use Rattle.ak_desk_runs.specs.DeskRuns.{IsDeskRun}
use Rattle.ak_desk_runs.specs.LineOutcomes.{DeskEnds}
use Rattle.ak_desk_runs.specs.RunStates.{Outside, RunState, begun, outside_in}
use Rattle.ak_io.specs.declared.lines.Line.{Line}
use Rattle.ak_line_runs.proofs.Going.{PastStops, ends_at_once, ends_run}
use Rattle.ak_line_runs.specs.RunSteps.{IsSoFar, StopsThere}
use Rattle.ak_line_runs.specs.declared.command_ends.CommandEnd.{CommandEnd}
use Rattle.ak_line_runs.specs.declared.command_ends.CommandEnd.TheVariants as ends

-- the line past the input's limit doesn't go
pub past_stops : PastStops DeskEnds
past_stops number s t printed (inl (passed, same, none)) = cc
past_stops number s t printed (inr (unpassed, turn, takes, (answer, (text, said, is, says, ends), answered))) = cc

-- a step of a run that is its last
pub ends_desk_run : (end : CommandEnd) (all left : Option (List Line)) (taken : ℕ) (before : Outside) (s last : RunState) (w0 w1 w2 : Option (List ℕ))
    → IsSoFar DeskEnds all left taken (begun before) s w0 w1 → StopsThere DeskEnds end left (taken + 1) s last w1 w2
    → IsDeskRun end all before (outside_in last) w0 w2
ends_desk_run end all left taken before s last w0 w1 w2 so_far stops = record {
  last = last;
  run = ends_run DeskEnds end all left taken (begun before) s last w0 w1 w2 so_far stops;
  outside = refl;
}

-- memory was out before the first line
pub ends_desk_at_once : (all : Option (List Line)) (before : Outside) (w : Option (List ℕ)) → IsDeskRun ends.Memory all before before w w
ends_desk_at_once all before w = record { last = begun before; run = ends_at_once DeskEnds all (begun before) w; outside = refl }
