use Rattle.std.proofs.Common.{refl, w64}
use Rattle.std.proofs.lemmas.Bool.{eq-eqb, ne_eqb}
use Rattle.std.proofs.lemmas.Int.{to_z-of_z}
use Rattle.ak_lab_wires.proofs.Turning.{is_due, not_due}
use Rattle.ak_lab_wires.specs.Replaying.{ReplaysOne}
use Rattle.ak_lab_wires.proofs.replayed_requests.replay_if_due.Goals as goal

pub returns-then-it-call : goal.returns-then-it-call
returns-then-it-call c =
    is_due ReplaysOne c.args.it.now c.args.call c.args.at c.args.at c.args.server.now c.replay_act.new.server c.replay_act.result (eq-eqb _ _ c.if-it-call.true)
    (refl, rw (to_z-of_z w64 c.args.at c.ranges.at) at c.replay_act.ensures)

pub returns-else-it-call : goal.returns-else-it-call
returns-else-it-call c = not_due ReplaysOne c.args.it.now c.args.call c.args.at c.args.server.now (ne_eqb _ _ c.if-it-call.false)
