use Rattle.std.proofs.Common.{List, refl, subst, w64, SFits, rules}
use Rattle.std.proofs.lemmas.Int.{to_z-of_z}
use Rattle.ak_lab_devices.specs.declared.plans.Planned.{Planned}
use Rattle.ak_lab_wires.proofs.Between.{replays_between, replays_idle}
use Rattle.ak_lab_wires.specs.Replaying.{ReplaysAt, ReplaysOne}
use Rattle.ak_lab_wires.specs.Turns.{InTurn, due}
use Rattle.ak_lab_wires.proofs.replayed_requests.ReplaysBetween.before.Goals as goal

pub returns : goal.returns
returns c =
    let fits : SFits w64 c.args.self.now.at = search rules in
    let was = c.args.self.now in
    -- the session makes no difference to it
    let came : ReplaysAt c.args.call 0 was was c.args.server.now c.replay_due.new.server c.replay_due.result = (
      refl,
      subst (λ (l : List Planned). InTurn ReplaysOne (due c.args.call l) was.at was.at c.args.server.now c.replay_due.new.server c.replay_due.result) c.as_slice.ensures
          (rw (to_z-of_z w64 was.at fits) at c.replay_due.ensures),
    ) in
    record {
      acts = came;
      comes = replays_between _ c.args.call 0 was was c.args.server.now c.replay_due.new.server c.replay_due.result came;
      idle = replays_idle c.args.call 0 was was c.args.server.now c.replay_due.new.server c.replay_due.result came;
    }
