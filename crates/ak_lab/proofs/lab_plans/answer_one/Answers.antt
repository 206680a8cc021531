use Rattle.std.proofs.Common.{w64}
use Rattle.std.proofs.lemmas.Int.{to_z-of_z}
use Rattle.std.proofs.lemmas.Result.{err_from_is_err_and}
use Rattle.ak_lab.proofs.Planned.{one_served, one_told, one_unserved}
use Rattle.ak_lab_devices.proofs.InTime.{moment_fits}
use Rattle.ak_lab.proofs.lab_plans.answer_one.Goals as goal

pub returns-clause-ok : goal.returns-clause-ok
returns-clause-ok c =
    one_told c.args.request.now c.args.at c.args.server.now c.serve.new.self c.args.printed.now c.tell.new.printed c.in_ok-reply.reply c.tell.result
    (rw (to_z-of_z w64 c.args.at (moment_fits c.args.at c.requires.clock)) at c.in_ok-reply.ensures.ok) c.tell.ensures

pub returns-clause-err : goal.returns-clause-err
returns-clause-err c =
    one_served c.args.request.now c.args.at c.args.server.now c.serve.new.self c.in_ok-reply.reply c.tell.result
    (rw (to_z-of_z w64 c.args.at (moment_fits c.args.at c.requires.clock)) at c.in_ok-reply.ensures.ok)

pub returns-in_err-reply-clause-err : goal.returns-in_err-reply-clause-err
returns-in_err-reply-clause-err c =
    let p = err_from_is_err_and c.from_residual.result c.from_residual.ensures.1 in
    rw p.1 (one_unserved c.args.request.now c.args.at c.args.server.now c.serve.new.self c.in_err-reply.field-0.0 c.in_err-reply.ensures.err)
