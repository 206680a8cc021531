use Rattle.std.proofs.Common.{ap, ◌∙◌, rules, w64, SFits}
use Rattle.std.proofs.lemmas.Int.{to_z-of_z}
use Rattle.ak_device.specs.Settlings.{with_settled}
use Rattle.ak_keep.specs.Keepers.{changed}
use Rattle.ak_sync_rows.proofs.Parted.{if_ok}
use Rattle.ak_device.proofs.settlings.settle_one.Goals as goal

pub returns-in-Some-clause-ok : goal.returns-in-Some-clause-ok
returns-in-Some-clause-ok g c =
    let usn : SFits w64 c.args.usn = search rules in
    if_ok c.settle_row.result _ _ (λ is. is ∙ ap (changed (with_settled c.args.usn c.args.name)) c.in_ok-row.ensures.reads.same)
    (rw (to_z-of_z w64 c.args.usn usn) at c.settle_row.ensures.ok)
