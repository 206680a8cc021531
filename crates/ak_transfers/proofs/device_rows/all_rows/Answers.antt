use Rattle.std.proofs.Common.{◌≤◌, ◌∙◌, arith, refl, sym, subst}
use Rattle.ak_server_steps.proofs.InTables.{table_read, tables_read}
use Rattle.ak_faults.proofs.Healths.{goes_further, goes_nowhere}
use Rattle.ak_keep.proofs.Causing.{cause-ok}
use Rattle.ak_transfers.proofs.Heads.{none_read, table_may}
use Rattle.ak_transfers.proofs.Rows.{none_may}
use Rattle.ak_transfers.specs.UploadParts.{MayBePutBefore}
use Rattle.ak_transfers.proofs.device_rows.all_rows.Goals as goal

pub loop-table-preserved : goal.loop-table-preserved
loop-table-preserved g c = record {
  all = table_read (g.K.Lookup.keeping c.args.from.now) c.loop-table.table-index c.loop-table.rows.items c.read_table.new.rows.items c.loop-table-test.true c.loop-table.invariant.all
      (rw (c.all.ensures, c.loop-table.invariant.same) at c.in_ok-read_table.ensures.reads.told);
  may = table_may c.loop-table.table-index c.loop-table.rows.items c.read_table.new.rows.items c.loop-table-test.true c.loop-table.invariant.may
      (rw (c.all.ensures) at c.in_ok-read_table.ensures.may);
  kept = c.in_ok-read_table.ensures.reads.kept ∙ c.loop-table.invariant.kept;
  same = c.in_ok-read_table.ensures.reads.same ∙ c.loop-table.invariant.same;
  goes = goes_further c.loop-table.invariant.goes c.in_ok-read_table.ensures.reads.cause.goes;
}

pub returns : goal.returns
returns g c =
    let end : 9 ≤ c.loop-table.table-index = omega (arith, c.loop-table-test.false) in
    record {
      reads = record {
        kept = c.loop-table.invariant.kept;
        same = c.loop-table.invariant.same;
        cause = cause-ok c.loop-table.rows c.loop-table.invariant.goes;
        told = tables_read (g.K.Lookup.keeping c.args.from.now) c.loop-table.table-index c.loop-table.rows.items c.loop-table.rows.items end refl
            (c.held-formed.ensures.formed c.marked-checks.ensures.checks).current c.loop-table.invariant.all;
      };
      may = c.loop-table.invariant.may.may;
    }

pub loop-table-init : goal.loop-table-init
loop-table-init g c = record {
  all = none_read (g.K.Lookup.keeping c.args.from.now) c.new-rows.result.items c.new-rows.ensures.items;
  may = subst (MayBePutBefore 0) (sym c.new-rows.ensures.items) (record { may = none_may; before = tt });
  kept = refl;
  same = refl;
  goes = goes_nowhere (g.K.Lookup.health c.args.from.now);
}
