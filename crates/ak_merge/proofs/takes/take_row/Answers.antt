use mir.Val.{SFits}
use Rattle.std.proofs.Common.{ap, ◌∙◌, w64}
use Rattle.std.proofs.lemmas.Int.{to_z-of_z}
use Rattle.ak_base.specs.Rows.{with_usn}
use Rattle.ak_keep.specs.Keepers.{put}
use Rattle.ak_merge.proofs.Taking.{passed_over, put_there}
use Rattle.ak_merge.proofs.takes.take_row.Goals as goal

pub returns-then-takes-clause-ok : goal.returns-then-takes-clause-ok
returns-then-takes-clause-ok g c =
    let k = g.K.Lookup.keeping c.args.keeper.now in
    let fits : SFits w64 c.args.usn = c.ranges.usn in
    (simp to_z-of_z at c.in_ok-put_with.ensures.ok) ∙ ap (put (with_usn c.args.row c.args.usn)) (rw c.takes.ensures.reads.same at c.in_ok-bury.ensures.ok)
    ∙ put_there c.args.side k c.args.row c.args.usn (rw c.if-takes.true at c.in_ok-takes.ensures.reads.told)

pub returns-clause-ok : goal.returns-clause-ok
returns-clause-ok g c =
    let k = g.K.Lookup.keeping c.args.keeper.now in
    (rw c.takes.ensures.reads.same at c.in_ok-bury.ensures.ok) ∙ passed_over c.args.side k c.args.row c.args.usn (rw c.if-takes.false at c.in_ok-takes.ensures.reads.told)
