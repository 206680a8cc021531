use Rattle.std.proofs.Common.{List, refl, subst}
use Rattle.ak_lab_devices.specs.declared.plans.Planned.{Planned}
use Rattle.ak_lab_wires.proofs.Between.{crosses_between, crosses_idle}
use Rattle.ak_lab_wires.specs.CrossedSyncs.{ActsOnce, CrossesAt, cross_state}
use Rattle.ak_lab_wires.specs.Turns.{InTurn, due}
use Rattle.ak_lab_wires.specs.declared.crossed_syncs.Crossings.{Crossings}
use Rattle.ak_lab_wires.proofs.crossed_syncs.CrossingsBetween.before.Goals as goal

pub returns : goal.returns
returns c =
    let was = c.args.self.now in
    let now : Crossings = record was { lab = c.come_due.new.lab } in
    let came : CrossesAt c.args.call c.args.session.0 was now c.args.server.now c.come_due.new.server c.come_due.result = (
      refl,
      subst (λ (l : List Planned). InTurn (ActsOnce c.args.session.0) (due c.args.call l) (cross_state was.lab) (cross_state c.come_due.new.lab) c.args.server.now
          c.come_due.new.server c.come_due.result) c.as_slice.ensures c.come_due.ensures,
    ) in
    record {
      acts = came;
      comes = crosses_between c.args.session.0 c.args.call was now c.args.server.now c.come_due.new.server c.come_due.result came;
      idle = crosses_idle c.args.call c.args.session.0 was now c.args.server.now c.come_due.new.server c.come_due.result came;
    }
