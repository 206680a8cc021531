-- How a line that is said goes in the program: it prints lines, or stops.
use Rattle.std.specs.Prelude.{ℕ, List, Result}
use Rattle.ak_lab.specs.LabStates.{LabState}
use Rattle.ak_lab.specs.LineOutcomes.{SaidEnds}
use Rattle.ak_lab_lines.specs.declared.lab_lines.LabLine.{LabLine}
use Rattle.ak_line_runs.specs.LineRuns.{came_to}
use Rattle.ak_line_runs.specs.declared.line_stops.LineStop.{LineStop}

-- a line that is said came to this
abbrev pub CameOut : LabLine → LabState → LabState → Result (List (List ℕ)) LineStop → Type 0
CameOut said s t result = SaidEnds said s t (came_to result)
