use Rattle.std.proofs.Common.{drop}
use Rattle.ak_faults.specs.Causes.{GoesOn}
use Rattle.ak_io.specs.Scripts.{Reached, written_lines}
use Rattle.ak_line_runs.proofs.came_prints.print_each.Given as goal

-- the lines that are left are still to be printed
abbrev pub invariant-loop-line : goal.invariant-loop-line
invariant-loop-line g l = record {
  so_far : Reached (g.O.Sink.written l.fn.out) (g.O.Sink.written l.out) (written_lines l.lines) (written_lines (drop l.line-index l.lines));
  goes : GoesOn (g.O.End.health l.fn.out) (g.O.End.health l.out);
}
