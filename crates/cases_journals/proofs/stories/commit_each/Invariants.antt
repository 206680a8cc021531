-- the journal stays in order
use Rattle.ak_journals.specs.Journals.{IsInOrder}
use Rattle.cases_journals.proofs.stories.commit_each.Given as goal

abbrev pub invariant-loop-text : goal.invariant-loop-text
invariant-loop-text g l = IsInOrder g.D.Disk.content g.D.Disk.may_leave l.journal
