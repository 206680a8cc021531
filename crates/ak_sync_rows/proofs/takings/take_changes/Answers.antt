use Rattle.std.proofs.Common.{ap, ◌∙◌, rules, w64, SFits}
use Rattle.std.proofs.lemmas.Int.{to_z-of_z}
use Rattle.ak_base.specs.declared.heads.Head.{Head}
use Rattle.ak_keep.specs.Keepers.{head_set}
use Rattle.ak_sync_rows.proofs.Parted.{if_ok}
use Rattle.ak_sync_rows.specs.Takes.{head_with, received_in}
use Rattle.ak_sync_rows.proofs.takings.take_changes.Goals as goal

pub returns-clause-ok : goal.returns-clause-ok
returns-clause-ok g c =
    let usn : SFits w64 c.args.usn = search rules in
    if_ok c.set_head.result _ _
    (λ is. is
    ∙ ap (λ (made : Head). head_set made (g.K.Lookup.keeping c.take_changed_rows.new.keeper)) (rw (to_z-of_z w64 c.args.usn usn) at c.in_ok-head.ensures.ok)
    ∙ ap (head_set (head_with c.args.usn (received_in c.args.came.now) c.args.head)) (rw (to_z-of_z w64 c.args.usn usn) at c.in_ok-take_changed_rows.ensures.ok))
    c.set_head.ensures.ok
