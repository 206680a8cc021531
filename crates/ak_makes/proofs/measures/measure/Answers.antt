use Rattle.ak_keep.specs.Keepers.{all_known}
use Rattle.ak_makes.proofs.MeasuredParts.{measured}
use Rattle.ak_makes.proofs.measures.measure.Goals as goal

pub returns : goal.returns
returns c =
    let synced = c.in_ok-server-2.field-0 in
    measured c.args.plan.seed c.args.plan.size.notes c.in_ok-server.server c.copied_keeper.new.server synced.server (all_known c.in_ok-keeper.keeper.kept)
    (all_known c.do_day.new.keeper.kept) (all_known c.sync_device.new.keeper.kept) c.in_ok-undo.undo c.do_day.new.undo c.in_ok-counts.counts synced.calls synced.outcome
    c.in_ok-server.ensures c.copied_keeper.ensures.viewed c.in_ok-keeper.ensures.copy c.in_ok-undo.ensures c.in_ok-do_day.ensures.ok c.in_ok-server-2.ensures
    c.in_ok-counts.ensures.counted
