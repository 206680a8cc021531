use Rattle.std.proofs.Common.{◌≡◌, ◌+◌, ◌∙◌}
use Rattle.ak_desk_runs.proofs.Going.{past_stops}
use Rattle.ak_desk_runs.specs.LineOutcomes.{DeskEnds}
use Rattle.ak_io.proofs.Readings.{counted}
use Rattle.ak_line_runs.proofs.Going.{went_counted}
use Rattle.ak_line_runs.proofs.Stopping.{keeper_caused, printed_not_input, steps_after}
use Rattle.ak_line_runs.specs.LinePrints.{printed_by}
use Rattle.ak_desk_runs.proofs.desk_runs.run_line.Goals as goal

pub returns-clause-steps : goal.returns-clause-steps
returns-clause-steps g c =
    let number : c.number-number.result ≡ c.args.reader.now.number + 1 =
    c.number-number.ensures ∙ counted c.args.reader.now c.next.new.self c.in-Ok-Some.line c.requires.number (rw c.in-Ok-Some.field-0-is at c.in-Ok-Some.ensures.counts) in
    steps_after DeskEnds _ _ _ c.in-Ok-Some.line _ _ _ _ (rw c.in-Ok-Some.field-0-is at c.in-Ok-Some.ensures.told)
    (printed_by c.obey_line-came.result) _ c.obey_line-came.ensures.ends (rw number at c.print_came.ensures.printed)

pub returns-clause-counts : goal.returns-clause-counts
returns-clause-counts g c =
    went_counted DeskEnds past_stops c.args.reader.now c.next.new.self c.in-Ok-Some.line c.number-number.result _ _ (printed_by c.obey_line-came.result) _ _ _
    (rw c.in-Ok-Some.field-0-is at c.in-Ok-Some.ensures.counts) c.obey_line-came.ensures.ends c.print_came.ensures.printed

pub returns-clause-ended : goal.returns-clause-ended
returns-clause-ended g c = λ is. absurd ((printed_not_input _ (printed_by c.obey_line-came.result) _ _ _ c.print_came.ensures.printed).0 is)

pub returns-clause-not_done : goal.returns-clause-not_done
returns-clause-not_done g c = (printed_not_input _ (printed_by c.obey_line-came.result) _ _ _ c.print_came.ensures.printed).1

pub returns-clause-cause : goal.returns-clause-cause
returns-clause-cause g c =
    let not_input = printed_not_input _ (printed_by c.obey_line-came.result) _ _ _ c.print_came.ensures.printed in
    record {
      kept = keeper_caused _ c.obey_line-came.result _ _ _ _ _ c.obey_line-came.ensures.cause c.print_came.ensures.printed;
      read = record { goes = c.next.ensures.cause.goes; failed = λ is. absurd (not_input.2 is); unfailed = λ calm is. not_input.2 is };
      written = c.print_came.ensures.cause;
    }
