use Rattle.std.proofs.Common.{rules, w64}
use Rattle.std.proofs.lemmas.Int.{to_z-of_z}
use mir.Val.{SFits}
use Rattle.ak_queue.proofs.Adding.{first_added}
use Rattle.ak_queue.proofs.gathered.add_first.Goals as goal

pub returns-in_ok-put_first : goal.returns-in_ok-put_first
returns-in_ok-put_first c =
    let due : SFits w64 c.args.card.now.due = search rules in
    let id : SFits w64 c.args.card.now.id = search rules in
    first_added c.args.most c.args.passes c.args.keys.now.keys c.put_first.new.keys.keys c.args.card.now.due c.args.card.now.id _ _ (to_z-of_z w64 c.args.card.now.due due) (to_z-of_z w64 c.args.card.now.id id) c.if-passes.true
    c.in_ok-put_first.ensures
