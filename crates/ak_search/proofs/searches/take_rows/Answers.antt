use Rattle.std.proofs.Common.{◌≡◌, ◌∷◌, ◌∙◌, length, rules}
use Rattle.ak_base.specs.Rows.{name_of}
use Rattle.ak_faults.proofs.Healths.{goes_further}
use Rattle.ak_keep.proofs.Causing.{cause-ok}
use Rattle.ak_search.proofs.Telling.{no_row_told, rows_told}
use Rattle.ak_search.proofs.searches.take_rows.Goals as goal

pub loop-row-preserved : goal.loop-row-preserved
loop-row-preserved g c =
    let rest : c.loop-row.rest.now ≡ c.in-Some.row.now ∷ c.in-Some.others.now = search rules in
    record {
      kept = c.in_ok-take_row.ensures.reads.kept ∙ c.loop-row.invariant.kept;
      same = c.in_ok-take_row.ensures.reads.same ∙ c.loop-row.invariant.same;
      goes = goes_further c.loop-row.invariant.goes c.in_ok-take_row.ensures.reads.cause.goes;
      found = rows_told (g.R.Lookup.keeping c.args.from.now).told c.args.search.now c.loop-row.search c.take_row.new.search c.args.found.now c.loop-row.found c.take_row.new.found c.args.rows.now
          c.in-Some.others.now c.in-Some.row.now (rw rest at c.loop-row.invariant.found) (rw c.loop-row.invariant.same at c.in_ok-take_row.ensures.reads.told);
      ascend = λ past ascends takes.
          let before = rw rest at (c.loop-row.invariant.ascend past ascends takes) in
          ((name_of c.in-Some.row.now).id, before.1.1, c.in_ok-take_row.ensures.ascend before.0 before.1.0 before.2, before.3);
    }

pub returns-clause-reads : goal.returns-clause-reads
returns-clause-reads g c =
    let none : length c.loop-row.rest.now ≡ 0 = search rules in
    let so_far = c.loop-row.invariant in
    record {
      kept = so_far.kept;
      same = so_far.same;
      cause = cause-ok tt so_far.goes;
      told = no_row_told (g.R.Lookup.keeping c.args.from.now).told c.args.search.now c.loop-row.search c.args.found.now c.loop-row.found c.args.rows.now c.loop-row.rest.now none so_far.found;
    }
