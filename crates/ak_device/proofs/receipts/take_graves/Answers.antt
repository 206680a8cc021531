use Rattle.std.proofs.Common.{◌∙◌, rules, w64, SFits}
use Rattle.std.proofs.lemmas.Int.{to_z-of_z}
use Rattle.ak_device.proofs.Receiving.{rows_came}
use Rattle.ak_sync_rows.proofs.Parted.{if_ok}
use Rattle.ak_session.specs.Messages.{graves_from}
use Rattle.ak_device.proofs.receipts.take_graves.Goals as goal

pub returns-clause-ok : goal.returns-clause-ok
returns-clause-ok g c =
    let usn : SFits w64 c.args.usn = search rules in
    if_ok c.take_given_graves.result _ _ (λ is. is ∙ rows_came c.args.usn (graves_from c.args.ids.now) (g.K.Lookup.keeping c.args.keeper.now)) (rw (to_z-of_z w64 c.args.usn usn) at c.take_given_graves.ensures.ok)
