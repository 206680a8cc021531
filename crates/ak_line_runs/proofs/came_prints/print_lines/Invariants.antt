use Rattle.std.proofs.Common.{length}
use Rattle.ak_faults.specs.Causes.{GoesOn}
use Rattle.ak_io.specs.Scripts.{Reached, written_lines}
use Rattle.ak_line_runs.proofs.came_prints.print_lines.Given as goal

-- the lines that are left are still to be printed
abbrev pub invariant-loop-rest : goal.invariant-loop-rest
invariant-loop-rest g l = record {
  so_far : Reached (g.O.Sink.written l.fn.out) (g.O.Sink.written l.out) (written_lines l.lines) (written_lines l.rest);
  goes : GoesOn (g.O.End.health l.fn.out) (g.O.End.health l.out);
}

abbrev pub decreases-loop-rest : goal.decreases-loop-rest
decreases-loop-rest g l = length l.rest
