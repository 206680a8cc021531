use Rattle.std.proofs.Common.{arith}
use Rattle.std.proofs.lemmas.Int.{to_z-of_z}
use Rattle.ak_merge.proofs.TagLists.{settled_each}
use Rattle.ak_merge.proofs.tags.settle_each.Goals as goal

pub returns : goal.returns
returns c =
    let every = c.loop-tag.invariant in
    settled_each _ c.args.usn _ _ c.loop-tag.tag-index (to_z-of_z _ c.args.usn c.ranges.usn) every.length (omega (arith, every.length)) every.settled
