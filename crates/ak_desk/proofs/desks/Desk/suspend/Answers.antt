use Rattle.std.proofs.Common.{w64, SFits}
use Rattle.std.proofs.lemmas.Int.{to_z-of_z}
use Rattle.ak_desk.proofs.desks.Desk.suspend.Goals as goal

pub returns-clause-edits : goal.returns-clause-edits
returns-clause-edits g c =
    let at : SFits w64 c.args.at = c.ranges.at in
    rw (to_z-of_z w64 c.args.at at) at c.suspend.ensures.edits
