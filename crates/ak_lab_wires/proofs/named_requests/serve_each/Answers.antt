use Rattle.std.proofs.Common.{Ok, Err, arith, w64}
use Rattle.std.proofs.lemmas.Int.{to_z-of_z}
use Rattle.std.proofs.lemmas.Result.{err_from_is_err_and}
use Rattle.ak_lab_devices.proofs.InTime.{moment_fits}
use Rattle.ak_lab_wires.proofs.Named.{past_end}
use Rattle.ak_lab_wires.proofs.Serving.{front_ended, front_more, served_short}
use Rattle.ak_lab_wires.proofs.named_requests.serve_each.Goals as goal

pub loop-request-init : goal.loop-request-init
loop-request-init c = λ new came front. front

pub loop-request-preserved : goal.loop-request-preserved
loop-request-preserved c = λ new came front.
    c.loop-request.invariant new came
    (front_more c.args.requests.now c.loop-request.request-index c.request-item.result _ c.loop-request.server c.serve.new.self new c.in_ok-serve.field-0 came
    (omega arith) c.request-item.is c.in_ok-serve.ensures.ok front)

pub returns : goal.returns
returns c =
    rw (to_z-of_z w64 c.args.at (moment_fits c.args.at c.requires.clock)) at (c.loop-request.invariant c.loop-request.server (Ok tt)
    (front_ended _ _ c.loop-request.server (past_end c.args.requests.now c.loop-request.request-index (omega arith))))

pub returns-in_err-serve : goal.returns-in_err-serve
returns-in_err-serve c =
    let p = err_from_is_err_and c.from_residual.result c.from_residual.ensures.1 in
    rw (p.1, p.2) (rw (to_z-of_z w64 c.args.at (moment_fits c.args.at c.requires.clock)) at (c.loop-request.invariant _ (Err c.in_err-serve.field-0.0)
    (served_short c.args.requests.now c.loop-request.request-index _ c.loop-request.server c.serve.new.self c.in_err-serve.field-0.0 c.in_err-serve.ensures.err)))
