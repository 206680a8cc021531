use Rattle.std.specs.List.{All}
use Rattle.ak_io.specs.Arrivals.{IsClockMoment}
use Rattle.cases_server_runs.proofs.runs.clock_of.Given as goal

abbrev pub invariant-loop-number : goal.invariant-loop-number
invariant-loop-number l = All IsClockMoment l.moments
