use Rattle.std.proofs.Common.{false, pos, arith}
use Rattle.ak_io.specs.Arrivals.{IsClockMoment}
use Rattle.ak_openings.proofs.OpeningLaws.{openings_are_checked, openings_are_distinct, openings_are_lawful}
use Rattle.ak_lab_wires.proofs.spares.spare_server.Goals as goal

within : IsClockMoment (pos 1_700_000_000_000)
within = record { low = omega arith; high = omega arith }

pub new-requires-clause-checked : goal.new-requires-clause-checked
new-requires-clause-checked c = openings_are_checked (pos 1_700_000_000_000) false c.in_ok-made.made within c.in_ok-made.ensures.is

pub new-requires-clause-distinct : goal.new-requires-clause-distinct
new-requires-clause-distinct c = openings_are_distinct (pos 1_700_000_000_000) false c.in_ok-made.made c.in_ok-made.ensures.is

pub new-requires-clause-lawful : goal.new-requires-clause-lawful
new-requires-clause-lawful c = openings_are_lawful (pos 1_700_000_000_000) c.in_ok-made.made within c.in_ok-made.ensures.is
