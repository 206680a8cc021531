use Rattle.std.proofs.Common.{Ok, Err, arith}
use Rattle.std.proofs.lemmas.Result.{err_from_is_err_and}
use Rattle.ak_lab_wires.proofs.Turning.{turn_more, turn_short, turns_ended}
use Rattle.ak_lab_wires.specs.CrossedSyncs.{ActsOnce, cross_state}
use Rattle.ak_lab_wires.proofs.crossed_syncs.come_due.Goals as goal

pub loop-it-init : goal.loop-it-init
loop-it-init c = λ now new came turn. turn

pub loop-it-preserved : goal.loop-it-preserved
loop-it-preserved c = λ now new came rest.
    c.loop-it.invariant now new came
    (turn_more (ActsOnce c.args.session.0) c.args.planned.now c.loop-it.it-index c.args.call c.it-item.result (omega arith) c.it-item.is
    (cross_state c.loop-it.lab) (cross_state c.come_if_due.new.self) now c.loop-it.server c.come_if_due.new.server new came c.in_ok-come_if_due.ensures rest)

pub returns : goal.returns
returns c =
    c.loop-it.invariant (cross_state c.loop-it.lab) c.loop-it.server (Ok tt)
    (turns_ended (ActsOnce c.args.session.0) c.args.planned.now c.loop-it.it-index c.args.call (cross_state c.loop-it.lab) c.loop-it.server (omega arith))

pub returns-in_err-come_if_due : goal.returns-in_err-come_if_due
returns-in_err-come_if_due c =
    let p = err_from_is_err_and c.from_residual.result c.from_residual.ensures.1 in
    rw (p.1, p.2) (c.loop-it.invariant (cross_state c.come_if_due.new.self) c.come_if_due.new.server (Err c.in_err-come_if_due.field-0.0)
    (turn_short (ActsOnce c.args.session.0) c.args.planned.now c.loop-it.it-index c.args.call c.it-item.result (omega arith) c.it-item.is
    (cross_state c.loop-it.lab) (cross_state c.come_if_due.new.self) c.loop-it.server c.come_if_due.new.server c.in_err-come_if_due.field-0.0 c.in_err-come_if_due.ensures))
