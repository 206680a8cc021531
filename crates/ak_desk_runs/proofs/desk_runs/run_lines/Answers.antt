use Rattle.std.proofs.Common.{Ok, ap, refl, arith, ◌∙◌}
use Rattle.ak_any_lines.proofs.CalledEnds.{idle_still}
use Rattle.ak_desk_runs.proofs.Going.{ends_desk_at_once, ends_desk_run, past_stops}
use Rattle.ak_desk_runs.specs.LineOutcomes.{DeskEnds}
use Rattle.ak_faults.proofs.Healths.{goes_further, goes_nowhere}
use Rattle.ak_line_runs.proofs.Going.{begins_reading, goes_on}
use Rattle.ak_desk_runs.proofs.desk_runs.run_lines.Goals as goal

pub returns-in-Err-clause-ends : goal.returns-in-Err-clause-ends
returns-in-Err-clause-ends g c = ends_desk_at_once _ _ _

pub returns-in-Err-new-clause-ends : goal.returns-in-Err-new-clause-ends
returns-in-Err-new-clause-ends g c = ends_desk_at_once _ _ _

pub lines-init : goal.lines-init
lines-init g c = record {
  so_far = begins_reading DeskEnds _ _ _ _ _ c.in-Ok-new.ensures (rw c.in-Ok.ensures refl);
  number = rw c.in-Ok-new.ensures (omega arith);
  idle = c.requires.idle;
  stays = refl;
  keeps_on = goes_nowhere _;
  reads_on = goes_nowhere _;
  writes_on = goes_nowhere _;
}

pub lines-preserved : goal.lines-preserved
lines-preserved g c =
    let counts = c.in-Ok-true.ensures.counts (ap Ok c.in-Ok-true.field-0-test) in
    record {
      so_far = goes_on DeskEnds past_stops _ _ _ _ _ _ _ _ _ _ _ c.lines.invariant.so_far counts.0 (rw c.in-Ok-true.field-0-test at c.in-Ok-true.ensures.steps);
      number = counts.1;
      idle = idle_still _ _ c.in-Ok-true.ensures.stays c.lines.invariant.idle;
      stays = c.in-Ok-true.ensures.stays ∙ c.lines.invariant.stays;
      keeps_on = goes_further c.lines.invariant.keeps_on c.in-Ok-true.ensures.cause.kept.goes;
      reads_on = goes_further c.lines.invariant.reads_on c.in-Ok-true.ensures.cause.read.goes;
      writes_on = goes_further c.lines.invariant.writes_on c.in-Ok-true.ensures.cause.written.goes;
    }

pub returns-in-Ok-false-clause-ends : goal.returns-in-Ok-false-clause-ends
returns-in-Ok-false-clause-ends g c =
    ends_desk_run _ _ _ _ _ _ _ _ _ _ c.lines.invariant.so_far (rw c.in-Ok-false.field-0-test at c.in-Ok-false.ensures.steps)

pub returns-in-Err-run_line-clause-ends : goal.returns-in-Err-run_line-clause-ends
returns-in-Err-run_line-clause-ends g c = ends_desk_run _ _ _ _ _ _ _ _ _ _ c.lines.invariant.so_far c.in-Err-run_line.ensures.steps
