use Rattle.std.proofs.Common.{◌≡◌, ◌∷◌, ◌∙◌, length, refl, rules}
use Rattle.ak_faults.proofs.Healths.{goes_further, goes_nowhere}
use Rattle.ak_filtered.proofs.GatheredKeys.{no_row_put, row_put, rows_put}
use Rattle.ak_keep.proofs.Causing.{cause-ok}
use Rattle.ak_filtered.proofs.candidates.add_rows.Goals as goal

pub loop-row-init : goal.loop-row-init
loop-row-init g c = record {
  kept = refl;
  same = refl;
  goes = goes_nowhere (g.R.Lookup.health c.args.from.now);
  found = no_row_put (g.R.Lookup.keeping c.args.from.now).told c.args.sieve.now c.args.search.now c.args.keys.now.keys c.args.rows.now;
}

pub loop-row-preserved : goal.loop-row-preserved
loop-row-preserved g c =
    let rest : c.loop-row.rest.now ≡ c.in-Some.row.now ∷ c.in-Some.others.now = search rules in
    record {
      kept = c.in_ok-add_if_card.ensures.reads.kept ∙ c.loop-row.invariant.kept;
      same = c.in_ok-add_if_card.ensures.reads.same ∙ c.loop-row.invariant.same;
      goes = goes_further c.loop-row.invariant.goes c.in_ok-add_if_card.ensures.reads.cause.goes;
      found = row_put (g.R.Lookup.keeping c.args.from.now).told c.args.sieve.now c.args.search.now c.loop-row.search c.add_if_card.new.search c.args.keys.now.keys c.loop-row.keys.keys c.add_if_card.new.keys.keys
          c.args.rows.now c.in-Some.others.now c.in-Some.row.now (rw rest at c.loop-row.invariant.found) (rw c.loop-row.invariant.same at c.in_ok-add_if_card.ensures.reads.told);
    }

pub returns : goal.returns
returns g c =
    let none : length c.loop-row.rest.now ≡ 0 = search rules in
    let so_far = c.loop-row.invariant in
    record {
      reads = record {
        kept = so_far.kept;
        same = so_far.same;
        cause = cause-ok tt so_far.goes;
        told = rows_put (g.R.Lookup.keeping c.args.from.now).told c.args.sieve.now c.args.search.now c.loop-row.search c.args.keys.now.keys c.loop-row.keys.keys c.args.rows.now c.loop-row.rest.now none so_far.found;
      };
    }
