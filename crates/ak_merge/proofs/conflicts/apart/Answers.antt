use Rattle.std.proofs.Common.{◌∙◌}
use Rattle.ak_faults.proofs.Healths.{goes_further}
use Rattle.ak_merge.proofs.Passing.{conflict_ends, conflict_goes_on}
use Rattle.ak_merge.proofs.conflicts.apart.Goals as goal

pub returns-in-Some-clause-first : goal.returns-in-Some-clause-first
returns-in-Some-clause-first g c =
    conflict_ends (g.A.Lookup.keeping c.args.a.now) (g.B.Lookup.keeping c.args.b.now) c.loop-table.table-index c.in-Some.name c.loop-table-test.true c.loop-table.invariant.first
    (rw (c.all.ensures, c.in-Some.is, c.loop-table.invariant.one_same, c.loop-table.invariant.other_same) at c.in_ok-name.ensures.first)

pub loop-table-preserved : goal.loop-table-preserved
loop-table-preserved g c = record {
  first = conflict_goes_on (g.A.Lookup.keeping c.args.a.now) (g.B.Lookup.keeping c.args.b.now) c.loop-table.table-index c.loop-table-test.true c.loop-table.invariant.first
      (rw (c.all.ensures, c.in_default.is, c.loop-table.invariant.one_same, c.loop-table.invariant.other_same) at c.in_ok-name.ensures.first);
  one_kept = c.in_ok-name.ensures.one_kept ∙ c.loop-table.invariant.one_kept;
  other_kept = c.in_ok-name.ensures.other_kept ∙ c.loop-table.invariant.other_kept;
  one_same = c.in_ok-name.ensures.one_same ∙ c.loop-table.invariant.one_same;
  other_same = c.in_ok-name.ensures.other_same ∙ c.loop-table.invariant.other_same;
  one_goes = goes_further c.loop-table.invariant.one_goes c.in_ok-name.ensures.cause.one_goes;
  other_goes = goes_further c.loop-table.invariant.other_goes c.in_ok-name.ensures.cause.other_goes;
}
