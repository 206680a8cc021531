use Rattle.ak_faults.proofs.Healths.{goes_further}
use Rattle.ak_line_runs.proofs.Pieces.{told}
use Rattle.ak_line_runs.proofs.Printing.{front_printed, front_stopped}
use Rattle.ak_line_runs.proofs.came_prints.print_lines.Goals as goal

pub returns-in_err-print_together-clause-part : goal.returns-in_err-print_together-clause-part
returns-in_err-print_together-clause-part g c =
    told _ _ _ _ (front_stopped _ _ _ _ c.loop-rest.rest.now c.min-count.result c.loop-rest.invariant.so_far c.in_err-print_together.ensures.part)

pub loop-rest-preserved : goal.loop-rest-preserved
loop-rest-preserved g c = record {
  so_far = front_printed _ _ _ _ c.loop-rest.rest.now c.min-count.result c.loop-rest.invariant.so_far c.in_ok-print_together.ensures.ok;
  goes = goes_further c.loop-rest.invariant.goes c.in_ok-print_together.ensures.cause.goes;
}
