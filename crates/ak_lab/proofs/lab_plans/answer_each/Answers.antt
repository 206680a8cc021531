use Rattle.std.proofs.Common.{arith, w64}
use Rattle.std.proofs.lemmas.Int.{to_z-of_z}
use Rattle.std.proofs.lemmas.Result.{err_from_is_err_and}
use Rattle.ak_lab.proofs.Planned.{all_answered, answered_short, none_answered, one_answered}
use Rattle.ak_lab_devices.proofs.InTime.{moment_fits}
use Rattle.ak_lab_wires.proofs.Named.{past_end}
use Rattle.ak_lab.proofs.lab_plans.answer_each.Goals as goal

pub loop-request-init : goal.loop-request-init
loop-request-init c = none_answered c.args.requests.now _ c.args.server.now c.new-printed.result c.new-printed.ensures

pub loop-request-preserved : goal.loop-request-preserved
loop-request-preserved c =
    one_answered c.args.requests.now c.loop-request.request-index c.request-item.result _ c.args.server.now c.loop-request.server c.answer_one.new.server
    c.loop-request.printed c.answer_one.new.printed (omega arith) c.request-item.is c.loop-request.invariant
    c.in_ok-answer_one.ensures.ok

pub returns : goal.returns
returns c =
    rw (to_z-of_z w64 c.args.at (moment_fits c.args.at c.requires.clock)) at (all_answered c.args.requests.now _ _ c.args.server.now c.loop-request.server c.loop-request.printed
    (past_end c.args.requests.now c.loop-request.request-index (omega arith)) c.loop-request.invariant)

pub returns-in_err-answer_one : goal.returns-in_err-answer_one
returns-in_err-answer_one c =
    let p = err_from_is_err_and c.from_residual.result c.from_residual.ensures.1 in
    rw p.1 (rw (to_z-of_z w64 c.args.at (moment_fits c.args.at c.requires.clock)) at (answered_short c.args.requests.now c.loop-request.request-index c.request-item.result _ c.args.server.now c.loop-request.server c.answer_one.new.server
    c.loop-request.printed c.in_err-answer_one.field-0.0 (omega arith) c.request-item.is c.loop-request.invariant c.in_err-answer_one.ensures.err))
