use Rattle.std.proofs.Common.{refl}
use Rattle.ak_lab_wires.proofs.Crossing.{told_so}
use Rattle.ak_lab_wires.specs.CrossedSyncs.{cross_state}
use Rattle.ak_lab_wires.proofs.crossed_syncs.CrossedLab.tell.Goals as goal

pub returns : goal.returns
returns c =
    told_so c.args.name.now c.args.outcome.now (cross_state c.args.self.now) _ c.in_ok-line.line c.push.result c.in_ok-line.ensures c.push.ensures.ok c.push.ensures.err refl
