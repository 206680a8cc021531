use Rattle.std.proofs.Common.{length}
use Rattle.ak_journal_rows.proofs.Ascending.{Decide}
use Rattle.ak_journal_rows.proofs.listed.are_listed.Given as goal

-- those that are left decide
abbrev pub invariant-loop-entry : goal.invariant-loop-entry
invariant-loop-entry g l = Decide g.E.Entry.fits g.E.Entry.named l.rest l.entries

abbrev pub decreases-loop-entry : goal.decreases-loop-entry
decreases-loop-entry g l = length l.rest
