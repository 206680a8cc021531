use Rattle.std.proofs.Common.{w64, SFits}
use Rattle.std.proofs.lemmas.Int.{to_z-of_z}
use Rattle.ak_filtered.proofs.refills.Dues.at.Goals as goal

pub returns-in-None : goal.returns-in-None
returns-in-None c =
    let fits : SFits w64 c.args.id = c.ranges.id in
    rw (to_z-of_z w64 c.args.id fits) at c.in-None.ensures.value
