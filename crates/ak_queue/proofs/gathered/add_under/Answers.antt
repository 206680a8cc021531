use Rattle.std.proofs.Common.{rules, w64, sym, ◌∙◌}
use Rattle.std.proofs.lemmas.Int.{to_z-of_z}
use mir.Val.{SFits}
use Rattle.ak_base.specs.Paths.{are_first_parts}
use Rattle.ak_queue.proofs.Adding.{new_added}
use Rattle.ak_queue.proofs.gathered.add_under.Goals as goal

pub returns-in_ok-insert : goal.returns-in_ok-insert
returns-in_ok-insert c =
    let due : SFits w64 c.args.card.now.due = search rules in
    let id : SFits w64 c.args.card.now.id = search rules in
    new_added (are_first_parts c.args.root.now c.args.home.now) c.args.keys.now.keys c.insert.new.self.keys c.args.home.now c.in_ok-path.path c.args.card.now.due c.args.card.now.id _ _ c.in_ok-path.ensures
    (to_z-of_z w64 c.args.card.now.due due) (to_z-of_z w64 c.args.card.now.id id) (sym c.leads_to.ensures ∙ c.if-leads_to.true) c.in_ok-insert.ensures.keys
