use Rattle.std.proofs.Common.{refl, map}
use Rattle.ak_device.proofs.Settling.{in_one, next_settled}
use Rattle.ak_faults.proofs.Healths.{goes_further, goes_nowhere}
use Rattle.ak_keep.specs.Keepers.{back}
use Rattle.ak_sync_rows.proofs.Taking.{stays_marked}
use Rattle.ak_device.proofs.settlings.settle_each.Goals as goal

pub loop-one-init : goal.loop-one-init
loop-one-init g c = record {
  leads = in_one _ (map (λ x. record { table = c.args.table; id = g.T.HasId.id_of x }) c.args.sent.now) (g.K.Lookup.keeping c.args.keeper.now);
  stays = record { marked = c.requires.marked; back = refl };
  goes = goes_nowhere _;
}

pub loop-one-preserved : goal.loop-one-preserved
loop-one-preserved g c = record {
  leads = next_settled (λ x. record { table = c.args.table; id = g.T.HasId.id_of x }) _ c.args.sent.now c.loop-one.one-index c.one-item.result _ c.name_in.result
      (g.K.Lookup.keeping c.loop-one.keeper) (g.K.Lookup.keeping c.settle_one.new.keeper) _
      c.loop-one-test.true c.one-item.is c.name_in.ensures c.loop-one.invariant.leads c.in_ok-settle_one.ensures.ok;
  stays = stays_marked (back (g.K.Lookup.keeping c.args.keeper.now)) (g.K.Lookup.keeping c.loop-one.keeper) (g.K.Lookup.keeping c.settle_one.new.keeper)
      c.loop-one.invariant.stays c.settle_one.ensures.stays;
  goes = goes_further c.loop-one.invariant.goes c.settle_one.ensures.cause.goes;
}
