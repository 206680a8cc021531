use Rattle.ak_faults.proofs.Healths.{goes_further}
use Rattle.ak_keep.specs.Keepers.{back}
use Rattle.ak_session.specs.Messages.{grave_with}
use Rattle.ak_sync_rows.proofs.Taking.{next_taken_at, stays_marked}
use Rattle.ak_sync_rows.proofs.takes.take_graves.Goals as goal

pub loop-id-preserved : goal.loop-id-preserved
loop-id-preserved g c = record {
  leads = next_taken_at (grave_with _) c.args.side _ c.args.ids.now c.loop-id.id-index _ _ (g.K.Lookup.keeping c.loop-id.keeper) (g.K.Lookup.keeping c.take_row.new.keeper) _
      c.loop-id-test.true c.grave_with.ensures c.loop-id.invariant.leads c.in_ok-take_row.ensures.ok;
  stays = stays_marked (back (g.K.Lookup.keeping c.args.keeper.now)) (g.K.Lookup.keeping c.loop-id.keeper) (g.K.Lookup.keeping c.take_row.new.keeper) c.loop-id.invariant.stays c.take_row.ensures.stays;
  goes = goes_further c.loop-id.invariant.goes c.take_row.ensures.cause.goes;
}
