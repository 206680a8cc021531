use Rattle.std.proofs.Common.{rules, w64}
use Rattle.std.proofs.lemmas.Int.{to_z-of_z}
use mir.Val.{SFits}
use Rattle.ak_memory.proofs.Keys.{queue_dropped}
use Rattle.ak_memory.proofs.card_keys.CardKeys.drop_queue.Goals as goal

pub returns-then-not-needed-clause-keys : goal.returns-then-not-needed-clause-keys
returns-then-not-needed-clause-keys c =
    let queue : SFits w64 c.args.was.now.queue = search rules in
    let due : SFits w64 c.args.was.now.due = search rules in
    queue_dropped c.args.self.now.queues.keys c.remove.new.self.keys c.args.was.now c.args.name c.args.needed _ _ (to_z-of_z w64 c.args.was.now.queue queue) (to_z-of_z w64 c.args.was.now.due due) c.if-not-needed.true
    c.remove.ensures.updates.0
