use Rattle.std.proofs.Common.{ap}
use Rattle.ak_base.specs.declared.rows.Row.TheVariants as rows
use Rattle.ak_faults.proofs.Healths.{goes_further}
use Rattle.ak_keep.specs.Keepers.{back}
use Rattle.ak_sync_rows.proofs.Taking.{next_taken, stays_marked}
use Rattle.ak_sync_rows.proofs.takes.take_notes.Goals as goal

pub loop-row-preserved : goal.loop-row-preserved
loop-row-preserved g c = record {
  leads = next_taken rows.Note c.args.side _ c.args.came.now c.loop-row.row-index c.row-item.result _ (g.K.Lookup.keeping c.loop-row.keeper) (g.K.Lookup.keeping c.take_row.new.keeper) _
      c.loop-row-test.true c.row-item.is (ap rows.Note c.in_ok-copy.ensures) c.loop-row.invariant.leads c.in_ok-take_row.ensures.ok;
  stays = stays_marked (back (g.K.Lookup.keeping c.args.keeper.now)) (g.K.Lookup.keeping c.loop-row.keeper) (g.K.Lookup.keeping c.take_row.new.keeper) c.loop-row.invariant.stays c.take_row.ensures.stays;
  goes = goes_further c.loop-row.invariant.goes c.take_row.ensures.cause.goes;
}
