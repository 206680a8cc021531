use Rattle.std.proofs.Common.{◌+ℤ◌, pos, w64, SFits}
use Rattle.std.proofs.lemmas.Int.{to_z-of_z}
use Rattle.ak_device.proofs.Closing.{next_within}
use Rattle.ak_sync_rows.proofs.MadeHeads.{stamp_holds}
use Rattle.ak_device.proofs.closings.commit_at.Goals as goal

pub returns-clause-ok : goal.returns-clause-ok
returns-clause-ok g c =
    let next : SFits w64 (c.args.usn +ℤ pos 1) = stamp_holds (c.args.usn +ℤ pos 1) (next_within c.args.usn c.requires.low c.requires.usn) in
    rw (to_z-of_z w64 c.args.moment c.ranges.moment, to_z-of_z w64 c.args.schema c.ranges.schema, to_z-of_z w64 c.args.usn c.ranges.usn, to_z-of_z w64 (c.args.usn +ℤ pos 1) next) at c.commit_moments.ensures.ok
