use Rattle.std.proofs.Common.{w64}
use Rattle.std.proofs.lemmas.Int.{to_z-of_z}
use Rattle.ak_device.proofs.Closing.{raises}
use Rattle.ak_faults.proofs.Healths.{cause_after, goes_further}
use Rattle.ak_device.proofs.closings.raise_moments.Goals as goal

pub returns-clause-ok : goal.returns-clause-ok
returns-clause-ok g c =
    raises c.commit_raised.result c.args.at c.in_ok-numbers.numbers (g.K.Lookup.keeping c.args.keeper.now) (g.K.Lookup.keeping c.held_numbers.new.keeper)
    (g.K.Lookup.keeping c.mark.new.self) (g.K.Lookup.keeping c.commit_raised.new.keeper)
    c.in_ok-numbers.ensures.reads.same c.in_ok-numbers.ensures.reads.told c.in_ok-mark.ensures.commits
    (rw (to_z-of_z w64 c.args.at c.ranges.at) at c.commit_raised.ensures.ok)

pub returns-clause-cause : goal.returns-clause-cause
returns-clause-cause g c =
    cause_after (goes_further c.in_ok-numbers.ensures.reads.cause.goes c.in_ok-mark.ensures.cause.goes) c.commit_raised.ensures.cause
