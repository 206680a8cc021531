use Rattle.std.proofs.Common.{◌≡◌, ◌+◌, ◌∙◌}
use Rattle.ak_io.proofs.Readings.{counted}
use Rattle.ak_lab.proofs.Going.{goes_unfailed, past_stops, ready_after_line}
use Rattle.ak_lab.specs.LabStates.{state_of}
use Rattle.ak_lab.specs.LineOutcomes.{EndsAs}
use Rattle.ak_line_runs.proofs.Going.{went_counted}
use Rattle.ak_line_runs.proofs.Stopping.{printed_not_input, steps_after}
use Rattle.ak_line_runs.specs.LinePrints.{printed_by}
use Rattle.ak_lab.proofs.lab_runs.run_line.Goals as goal

pub returns-clause-steps : goal.returns-clause-steps
returns-clause-steps g c =
    let number : c.number-number.result ≡ c.args.reader.now.number + 1 =
    c.number-number.ensures ∙ counted c.args.reader.now c.next.new.self c.in-Ok-Some.line c.requires.number (rw c.in-Ok-Some.field-0-is at c.in-Ok-Some.ensures.counts) in
    steps_after EndsAs _ _ _ c.in-Ok-Some.line _ _ _ _ (rw c.in-Ok-Some.field-0-is at c.in-Ok-Some.ensures.told)
    (printed_by c.obey_line-lab.result.1) _ (rw number at c.obey_line-lab.ensures.ends) (rw number at c.print_came-went.ensures.printed)

pub returns-clause-counts : goal.returns-clause-counts
returns-clause-counts g c =
    went_counted EndsAs past_stops c.args.reader.now c.next.new.self c.in-Ok-Some.line c.number-number.result (state_of c.args.lab) (state_of c.obey_line-lab.result.0)
    (printed_by c.obey_line-lab.result.1) _ _ _
    (rw c.in-Ok-Some.field-0-is at c.in-Ok-Some.ensures.counts) c.obey_line-lab.ensures.ends c.print_came-went.ensures.printed

pub returns-clause-ended : goal.returns-clause-ended
returns-clause-ended g c = λ is. absurd ((printed_not_input _ (printed_by c.obey_line-lab.result.1) _ _ _ c.print_came-went.ensures.printed).0 is)

pub returns-clause-ready : goal.returns-clause-ready
returns-clause-ready g c = ready_after_line _ c.obey_line-lab.result.1 _ _ _ _ c.print_came-went.ensures.printed c.obey_line-lab.ensures.ready

pub returns-clause-not_done : goal.returns-clause-not_done
returns-clause-not_done g c = (printed_not_input _ (printed_by c.obey_line-lab.result.1) _ _ _ c.print_came-went.ensures.printed).1

pub returns-clause-unkept : goal.returns-clause-unkept
returns-clause-unkept g c =
    goes_unfailed c.number-number.result c.in-Ok-Some.line (state_of c.args.lab) (state_of c.obey_line-lab.result.0) (printed_by c.obey_line-lab.result.1) _ _ _
    c.obey_line-lab.ensures.ends c.print_came-went.ensures.printed

pub returns-clause-read : goal.returns-clause-read
returns-clause-read g c =
    let not_input = printed_not_input _ (printed_by c.obey_line-lab.result.1) _ _ _ c.print_came-went.ensures.printed in
    record { goes = c.next.ensures.cause.goes; failed = λ is. absurd (not_input.2 is); unfailed = λ calm is. not_input.2 is }
