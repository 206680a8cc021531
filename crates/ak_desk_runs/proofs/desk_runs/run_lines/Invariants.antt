use Rattle.std.proofs.Common.{◌≡◌, ◌≤◌, map}
use Rattle.ak_desk.specs.Desks.{IsIdle}
use Rattle.ak_desk_runs.specs.LineOutcomes.{DeskEnds}
use Rattle.ak_desk_runs.specs.RunStates.{begun, outside_of, state_with}
use Rattle.ak_faults.specs.Causes.{GoesOn}
use Rattle.ak_io.specs.Lines.{lines_left}
use Rattle.ak_line_runs.specs.LineRuns.{input_lines}
use Rattle.ak_line_runs.specs.RunSteps.{IsSoFar}
use Rattle.ak_desk_runs.proofs.desk_runs.run_lines.Given as goal

-- the lines so far went and are printed, and the others are left
abbrev pub invariant-lines : goal.invariant-lines
invariant-lines g l = record {
  so_far : IsSoFar DeskEnds (input_lines (g.I.Source.left l.fn.input)) (lines_left l.reader (g.I.Source.left l.input)) l.reader.number
      (begun (outside_of (g.K.Lookup.keeping l.fn.keeper) (map (λ b. (g.dyn-1.0.entry b.vtable).1.meaning b.value) l.fn.filters.items) (g.C.Clock.to_come l.fn.clock) (g.R.Chance.to_come l.fn.chance)))
      (state_with (outside_of (g.K.Lookup.keeping l.keeper) (map (λ b. (g.dyn-1.0.entry b.vtable).1.meaning b.value) l.filters.items) (g.C.Clock.to_come l.clock) (g.R.Chance.to_come l.chance)) l.progress)
      (g.O.Sink.written l.fn.out) (g.O.Sink.written l.out);
  number : l.reader.number ≤ 1_073_741_824;
  idle : IsIdle (g.K.Lookup.keeping l.keeper);
  stays : (g.K.Lookup.keeping l.keeper).headed ≡ (g.K.Lookup.keeping l.fn.keeper).headed;
  keeps_on : GoesOn (g.K.Lookup.health l.fn.keeper) (g.K.Lookup.health l.keeper);
  reads_on : GoesOn (g.I.End.health l.fn.input) (g.I.End.health l.input);
  writes_on : GoesOn (g.O.End.health l.fn.out) (g.O.End.health l.out);
}

abbrev pub decreases-lines : goal.decreases-lines
decreases-lines g l = l.reader.room
