use Rattle.std.proofs.Common.{refl, ◌∙◌}
use Rattle.ak_exchange.specs.declared.envelopes.Ids.{Ids}
use Rattle.ak_keep.specs.Keepers.{all_known}
use Rattle.ak_makes.proofs.DeviceSyncs.{synced}
use Rattle.ak_makes.proofs.measures.sync_device.Goals as goal
use Rattle.ak_sync_in_memory.specs.LoopWires.{inside_with}

pub returns : goal.returns
returns c =
    let ids : Ids = record { host = c.make_key.result; session = record { 0 = 1 } } in
    let wire = c.new-wire.result in
    let after = c.sync_over-outcome.new.wire in
    synced (all_known c.args.keeper.now.kept) (all_known c.sync_over-outcome.new.keeper.kept) c.args.server wire.server c.into_parts-server.result.0 wire.between
    (inside_with after.server after.between after.moment after.mishaps after.counts) ids wire.counts wire.mishaps wire.moment c.in_ok-clock.clock
    c.calls-calls.result c.sync_over-outcome.result
    c.new-wire.ensures.server c.new-wire.ensures.moment c.new-wire.ensures.counts (c.new-wire.ensures.mishaps ∙ c.new.ensures) c.in_ok-clock.ensures c.make_key.ensures refl
    c.sync_over-outcome.ensures.ended c.sync_over-outcome.ensures.lost c.into_parts-server.ensures.server c.calls-calls.ensures
