use Rattle.std.proofs.Common.{arith}
use Rattle.ak_lab_devices.proofs.Planning.{crossing_added}
use Rattle.ak_lab_devices.proofs.plans.crossings_in.Goals as goal

pub loop-it-preserved : goal.loop-it-preserved
loop-it-preserved c =
    crossing_added c.args.planned.now c.loop-it.it-index c.it-item.result c.loop-it.made c.add_crossing.new.made (omega arith) c.it-item.is
    c.in_ok-add_crossing.ensures c.loop-it.invariant
