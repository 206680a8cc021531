use Rattle.std.proofs.Common.{◌≡◌, ◌∙◌, arith}
use Rattle.ak_faults.proofs.Healths.{goes_further}
use Rattle.ak_line_runs.proofs.Pieces.{told}
use Rattle.ak_line_runs.proofs.Printing.{line_printed, line_stopped}
use Rattle.ak_line_runs.proofs.came_prints.print_each.Goals as goal

pub returns-in_err-print_line-clause-part : goal.returns-in_err-print_line-clause-part
returns-in_err-print_line-clause-part g c =
    let bytes : c.as_bytes.result.now ≡ c.line-item.result = c.as_bytes.ensures.value ∙ c.as_str.ensures in
    told _ _ _ _ (line_stopped _ _ _ _ c.args.lines.now c.loop-line.line-index _ (omega arith) c.line-item.is c.loop-line.invariant.so_far (rw bytes at c.in_err-print_line.ensures.part))

pub loop-line-preserved : goal.loop-line-preserved
loop-line-preserved g c =
    let bytes : c.as_bytes.result.now ≡ c.line-item.result = c.as_bytes.ensures.value ∙ c.as_str.ensures in
    record {
      so_far = line_printed _ _ _ _ c.args.lines.now c.loop-line.line-index _ (omega arith) c.line-item.is c.loop-line.invariant.so_far (rw bytes at c.in_ok-print_line.ensures.ok);
      goes = goes_further c.loop-line.invariant.goes c.in_ok-print_line.ensures.cause.goes;
    }
