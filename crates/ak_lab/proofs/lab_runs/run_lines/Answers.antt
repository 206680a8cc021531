use Rattle.std.proofs.Common.{Ok, Err, ap, refl, arith, ◌∙◌}
use Rattle.ak_faults.proofs.Healths.{goes_further, goes_nowhere}
use Rattle.ak_lab.proofs.Going.{past_stops}
use Rattle.ak_lab.specs.LineOutcomes.{EndsAs}
use Rattle.ak_line_runs.proofs.Going.{begins_run, ends_run, goes_on}
use Rattle.ak_lab.proofs.lab_runs.run_lines.Goals as goal

pub lines-init : goal.lines-init
lines-init g c = record {
  so_far = begins_run EndsAs _ _ _ _ _ c.requires.number refl;
  number = omega (arith, c.requires.number);
  ready = c.requires.ready;
  reads_on = goes_nowhere _;
  writes_on = goes_nowhere _;
}

pub lines-preserved : goal.lines-preserved
lines-preserved g c =
    let went = c.in-Ok-true.is ∙ ap Ok c.in-Ok-true.field-0-test in
    let counts = c.run_line-next.ensures.counts went in
    record {
      so_far = goes_on EndsAs past_stops _ _ _ _ _ _ _ _ _ _ _ c.lines.invariant.so_far counts.0 (rw went at c.run_line-next.ensures.steps);
      number = counts.1;
      ready = c.run_line-next.ensures.ready went;
      reads_on = goes_further c.lines.invariant.reads_on c.run_line-next.ensures.read.goes;
      writes_on = goes_further c.lines.invariant.writes_on c.run_line-next.ensures.written.goes;
    }

pub returns-in-Ok-false-clause-runs : goal.returns-in-Ok-false-clause-runs
returns-in-Ok-false-clause-runs g c =
    let went = c.in-Ok-false.is ∙ ap Ok c.in-Ok-false.field-0-test in
    ends_run EndsAs _ _ _ _ _ _ _ _ _ _ c.lines.invariant.so_far (rw went at c.run_line-next.ensures.steps)

pub returns-in-Err-clause-runs : goal.returns-in-Err-clause-runs
returns-in-Err-clause-runs g c =
    ends_run EndsAs _ _ _ _ _ _ _ _ _ _ c.lines.invariant.so_far (rw c.in-Err.is at c.run_line-next.ensures.steps)

pub returns-in-Err-clause-unkept : goal.returns-in-Err-clause-unkept
returns-in-Err-clause-unkept g c = λ is. c.run_line-next.ensures.unkept (c.in-Err.is ∙ ap Err is)
