use Rattle.std.proofs.Common.{w64, SFits}
use Rattle.std.proofs.lemmas.Int.{to_z-of_z}
use Rattle.ak_desk.proofs.desks.Desk.undo.Goals as goal

pub returns-clause-ok : goal.returns-clause-ok
returns-clause-ok g c =
    let at : SFits w64 c.args.at = c.ranges.at in
    rw (to_z-of_z w64 c.args.at at) at c.undo.ensures.ok

pub returns-clause-refused : goal.returns-clause-refused
returns-clause-refused g c =
    let at : SFits w64 c.args.at = c.ranges.at in
    rw (to_z-of_z w64 c.args.at at) at c.undo.ensures.refused
