use Rattle.std.proofs.Common.{refl, ap, ◌∙◌, rules, w64, SFits}
use Rattle.std.proofs.lemmas.Int.{to_z-of_z}
use Rattle.ak_device.proofs.Receiving.{changes_came}
use Rattle.ak_keep.specs.Keepers.{Keeping, changed, head_set}
use Rattle.ak_messages.specs.declared.replies.Give.TheVariants as gives
use Rattle.ak_sync_rows.proofs.Parted.{if_ok}
use Rattle.ak_sync_rows.specs.Takes.{head_with, with_all_taken}
use Rattle.ak_session.specs.Messages.{change_rows}
use Rattle.ak_session.specs.Replies.{replied}
use Rattle.ak_device.proofs.receipts.take_changes.Goals as goal
use Rattle.ak_merge.specs.declared.sides.Side.TheVariants.{Device}

pub returns-clause-ok : goal.returns-clause-ok
returns-clause-ok g c =
    let usn : SFits w64 c.args.usn = search rules in
    if_ok c.take_changes.result _ _
    (λ is. changes_came c.args.usn (replied (gives.Changes c.args.came.now)) c.in_ok-head.head (head_with c.args.usn (replied (gives.Changes c.args.came.now)) c.in_ok-head.head)
    (g.K.Lookup.keeping c.args.keeper.now) (changed (with_all_taken Device c.args.usn (change_rows c.args.came.now)) (g.K.Lookup.keeping c.args.keeper.now)) (g.K.Lookup.keeping c.take_changes.new.keeper)
    c.requires.held c.in_ok-head.ensures.reads.told refl refl
    (is ∙ ap (λ (k : Keeping). head_set (head_with c.args.usn (replied (gives.Changes c.args.came.now)) c.in_ok-head.head) (changed (with_all_taken Device c.args.usn (change_rows c.args.came.now)) k)) c.in_ok-head.ensures.reads.same))
    (rw (to_z-of_z w64 c.args.usn usn) at c.take_changes.ensures.ok)
