use Rattle.std.proofs.Common.{rules, w64}
use Rattle.std.proofs.lemmas.Int.{to_z-of_z}
use mir.Val.{SFits}
use Rattle.ak_queue.proofs.Adding.{due_added}
use Rattle.ak_queue.proofs.gathered.add_due.Goals as goal

pub returns-in_ok-insert : goal.returns-in_ok-insert
returns-in_ok-insert c =
    let due : SFits w64 c.args.card.now.due = search rules in
    let id : SFits w64 c.args.card.now.id = search rules in
    due_added c.args.passes c.args.keys.now.keys c.insert.new.self.keys c.args.card.now.due c.args.card.now.id _ _ (to_z-of_z w64 c.args.card.now.due due) (to_z-of_z w64 c.args.card.now.id id) c.if-passes.true
    c.in_ok-insert.ensures.keys
