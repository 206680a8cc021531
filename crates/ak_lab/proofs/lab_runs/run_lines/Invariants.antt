use Rattle.std.proofs.Common.{◌≡◌, ◌≤◌}
use Rattle.ak_faults.specs.Causes.{GoesOn}
use Rattle.ak_io.specs.Lines.{lines_left}
use Rattle.ak_lab.specs.LabStates.{IsReady, state_of}
use Rattle.ak_lab.specs.LineOutcomes.{EndsAs}
use Rattle.ak_line_runs.specs.RunSteps.{IsSoFar}
use Rattle.ak_lab.proofs.lab_runs.run_lines.Given as goal

-- the lines so far went and are printed, and the others are left
abbrev pub invariant-lines : goal.invariant-lines
invariant-lines g l = record {
  so_far : IsSoFar EndsAs (lines_left l.fn.reader (g.I.Source.left l.fn.input)) (lines_left l.reader (g.I.Source.left l.input)) l.reader.number
      (state_of l.fn.lab) (state_of l.lab) (g.O.Sink.written l.fn.out) (g.O.Sink.written l.out);
  number : l.reader.number ≤ 1_073_741_824;
  ready : IsReady (state_of l.lab);
  reads_on : GoesOn (g.I.End.health l.fn.input) (g.I.End.health l.input);
  writes_on : GoesOn (g.O.End.health l.fn.out) (g.O.End.health l.out);
}

abbrev pub decreases-lines : goal.decreases-lines
decreases-lines g l = l.reader.room
