use Rattle.std.proofs.Common.{refl, sym, subst, rules, w64, SFits}
use Rattle.std.proofs.lemmas.Int.{to_z-of_z}
use Rattle.ak_base.specs.Heads.{IsHeadInRange}
use Rattle.ak_sync_rows.proofs.MadeHeads.{head_is}
use Rattle.ak_device.proofs.Settling.{settled_head_fits}
use Rattle.ak_device.specs.Settlings.{tags_settled}
use Rattle.ak_device.proofs.settlings.settled_head.Goals as goal

pub returns-clause-made : goal.returns-clause-made
returns-clause-made c =
    let crt : SFits w64 c.args.head.crt = search rules in
    let moment : SFits w64 c.args.head.moment = search rules in
    let schema : SFits w64 c.args.head.schema = search rules in
    let number : SFits w64 c.args.head.usn = search rules in
    let sync : SFits w64 c.args.head.last_sync = search rules in
    let usn : SFits w64 c.args.usn = search rules in
    head_is (tags_settled c.args.usn c.args.head) _ _ _ _ _ _ _
    (to_z-of_z w64 c.args.head.crt crt)
    (to_z-of_z w64 c.args.head.moment moment)
    (to_z-of_z w64 c.args.head.schema schema)
    (to_z-of_z w64 c.args.head.usn number)
    (to_z-of_z w64 c.args.head.last_sync sync)
    refl
    (rw (to_z-of_z w64 c.args.usn usn) at c.settle_tags-tags.ensures)

pub returns-clause-range : goal.returns-clause-range
returns-clause-range c =
    subst IsHeadInRange (sym (returns-clause-made c)) (settled_head_fits c.args.usn c.args.head c.requires.range c.requires.usn)
