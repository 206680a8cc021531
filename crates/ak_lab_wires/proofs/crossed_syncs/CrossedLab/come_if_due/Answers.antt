use Rattle.std.proofs.lemmas.Bool.{eq-eqb, ne_eqb}
use Rattle.ak_lab_wires.proofs.Turning.{is_due, not_due}
use Rattle.ak_lab_wires.specs.CrossedSyncs.{ActsOnce, cross_state}
use Rattle.ak_lab_wires.proofs.crossed_syncs.CrossedLab.come_if_due.Goals as goal

pub returns-then-it-call : goal.returns-then-it-call
returns-then-it-call c =
    is_due (ActsOnce c.args.session.0) c.args.it.now c.args.call (cross_state c.args.self.now) (cross_state c.come.new.self) c.args.server.now c.come.new.server
    c.come.result (eq-eqb _ _ c.if-it-call.true) c.come.ensures

pub returns-else-it-call : goal.returns-else-it-call
returns-else-it-call c =
    not_due (ActsOnce c.args.session.0) c.args.it.now c.args.call (cross_state c.args.self.now) c.args.server.now (ne_eqb _ _ c.if-it-call.false)
