use Rattle.std.proofs.Common.{◌≤◌, ◌∙◌, arith}
use Rattle.ak_faults.proofs.Healths.{goes_further}
use Rattle.ak_sync_in_memory.proofs.Copying.{all_read, table_next}
use Rattle.ak_sync_in_memory.proofs.Viewing.{collection_stays, viewed_further}
use Rattle.ak_sync_in_memory.proofs.copies.view_rows.Goals as goal

pub returns-in_err-view_table-clause-views : goal.returns-in_err-view_table-clause-views
returns-in_err-view_table-clause-views c =
    viewed_further c.args.server.now c.loop-table.server c.view_table.new.server c.loop-table.invariant.views c.view_table.ensures.views

pub loop-table-preserved : goal.loop-table-preserved
loop-table-preserved c = record {
  views = viewed_further c.args.server.now c.loop-table.server c.view_table.new.server c.loop-table.invariant.views c.view_table.ensures.views;
  goes = goes_further c.loop-table.invariant.goes c.view_table.ensures.cause.goes;
  checked = c.in_ok-view_table.ensures.checked c.loop-table.invariant.checked;
  all = λ d is. table_next d c.loop-table.table-index c.loop-table.rows.items c.view_table.new.rows.items c.loop-table-test.true
      (c.loop-table.invariant.all d is)
      (rw c.all.ensures at (c.in_ok-view_table.ensures.rows d (collection_stays c.args.server.now c.loop-table.server c.loop-table.invariant.views ∙ is)));
}

pub returns-clause-rows : goal.returns-clause-rows
returns-clause-rows c = λ d is.
    let end : 9 ≤ c.loop-table.table-index = omega (arith, c.loop-table-test.false) in
    all_read c.args.server.now d c.loop-table.table-index c.loop-table.rows.items c.of.result c.recall.ensures.lawful is end c.of.ensures
    (c.loop-table.invariant.all d is)
