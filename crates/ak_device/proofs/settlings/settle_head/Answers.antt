use Rattle.std.proofs.Common.{ap, ◌∙◌, rules, w64, SFits}
use Rattle.std.proofs.lemmas.Int.{to_z-of_z}
use Rattle.ak_device.proofs.Settling.{settles_tags}
use Rattle.ak_faults.proofs.Healths.{cause_after}
use Rattle.ak_keep.specs.Keepers.{head_set}
use Rattle.ak_sync_rows.proofs.Parted.{if_ok}
use Rattle.ak_device.proofs.settlings.settle_head.Goals as goal

pub returns-clause-ok : goal.returns-clause-ok
returns-clause-ok g c =
    let usn : SFits w64 c.args.usn = search rules in
    if_ok c.set_head.result _ _
    (λ set. settles_tags c.args.usn c.in_ok-head.head c.settled_head.result (g.K.Lookup.keeping c.args.keeper.now) (g.K.Lookup.keeping c.set_head.new.self)
    c.requires.held c.in_ok-head.ensures.reads.told (rw (to_z-of_z w64 c.args.usn usn) at c.settled_head.ensures.made)
    (set ∙ ap (head_set c.settled_head.result) c.in_ok-head.ensures.reads.same))
    c.set_head.ensures.ok

pub returns-clause-cause : goal.returns-clause-cause
returns-clause-cause g c = cause_after c.in_ok-head.ensures.reads.cause.goes c.set_head.ensures.cause
