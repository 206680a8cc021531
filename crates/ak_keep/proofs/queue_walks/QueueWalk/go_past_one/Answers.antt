use Rattle.std.proofs.Common.{rules, w64}
use Rattle.std.proofs.lemmas.Int.{to_z-of_z}
use mir.Val.{SFits}
use Rattle.ak_keep.proofs.WaitingCards.{at_read, fewer_read}
use Rattle.ak_keep.proofs.queue_walks.QueueWalk.go_past_one.Goals as goal

pub returns-clause-past : goal.returns-clause-past
returns-clause-past c =
    let due : SFits w64 c.args.card.now.due = search rules in
    let id : SFits w64 c.args.card.now.id = search rules in
    at_read c.args.self.now c.args.card.now.due c.args.card.now.id _ _ (to_z-of_z w64 c.args.card.now.due due) (to_z-of_z w64 c.args.card.now.id id)

pub returns-clause-fewer : goal.returns-clause-fewer
returns-clause-fewer c =
    let due : SFits w64 c.args.card.now.due = search rules in
    let id : SFits w64 c.args.card.now.id = search rules in
    fewer_read c.args.self.now.waiting.past c.args.card.now.due c.args.card.now.id _ _ (to_z-of_z w64 c.args.card.now.due due) (to_z-of_z w64 c.args.card.now.id id) due id
