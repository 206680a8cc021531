use Rattle.std.proofs.Common.{Ok, Err, arith, w64}
use Rattle.std.proofs.lemmas.Int.{to_z-of_z}
use Rattle.std.proofs.lemmas.Result.{err_from_is_err_and}
use Rattle.ak_lab_wires.proofs.Turning.{turn_more, turn_short, turns_ended}
use Rattle.ak_lab_wires.specs.Replaying.{ReplaysOne}
use Rattle.ak_lab_wires.proofs.replayed_requests.replay_due.Goals as goal

pub loop-it-init : goal.loop-it-init
loop-it-init c = λ now new came turn. turn

pub loop-it-preserved : goal.loop-it-preserved
loop-it-preserved c = λ now new came rest.
    c.loop-it.invariant now new came
    (turn_more ReplaysOne c.args.planned.now c.loop-it.it-index c.args.call c.it-item.result (omega arith) c.it-item.is _ _ now
    c.loop-it.server c.replay_if_due.new.server new came c.in_ok-replay_if_due.ensures rest)

pub returns : goal.returns
returns c =
    rw (to_z-of_z w64 c.args.at c.ranges.at) at (c.loop-it.invariant _ c.loop-it.server (Ok tt)
    (turns_ended ReplaysOne c.args.planned.now c.loop-it.it-index c.args.call _ c.loop-it.server (omega arith)))

pub returns-in_err-replay_if_due : goal.returns-in_err-replay_if_due
returns-in_err-replay_if_due c =
    let p = err_from_is_err_and c.from_residual.result c.from_residual.ensures.1 in
    rw (p.1, p.2) (rw (to_z-of_z w64 c.args.at c.ranges.at) at (c.loop-it.invariant _ c.replay_if_due.new.server (Err c.in_err-replay_if_due.field-0.0)
    (turn_short ReplaysOne c.args.planned.now c.loop-it.it-index c.args.call c.it-item.result (omega arith) c.it-item.is _ _
    c.loop-it.server c.replay_if_due.new.server c.in_err-replay_if_due.field-0.0 c.in_err-replay_if_due.ensures)))
