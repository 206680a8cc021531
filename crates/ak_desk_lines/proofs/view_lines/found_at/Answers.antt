use Rattle.std.proofs.Common.{w64, SFits}
use Rattle.std.proofs.lemmas.Int.{to_z-of_z}
use Rattle.ak_desk_lines.proofs.FoundDays.{found_on}
use Rattle.ak_desk_lines.proofs.view_lines.found_at.Goals as goal

pub returns-clause-told : goal.returns-clause-told
returns-clause-told g c =
    let at : SFits w64 c.args.at = c.ranges.at in
    found_on (g.K.Lookup.keeping c.args.keeper.now) c.args.at c.args.search.now c.in_ok-day.day c.in_ok-found.found
    (rw (to_z-of_z w64 c.args.at at) at c.in_ok-day.ensures.reads.told)
    (rw (c.in_ok-day.ensures.reads.same) at c.in_ok-found.ensures.reads.told)
