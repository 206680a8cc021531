use Rattle.std.proofs.Common.{w64, SFits}
use Rattle.std.proofs.lemmas.Int.{to_z-of_z}
use Rattle.ak_any_lines.proofs.first_things.empty_first.Goals as goal

pub returns-clause-empties : goal.returns-clause-empties
returns-clause-empties g c =
    let at : SFits w64 c.args.at = c.ranges.at in
    let deck : SFits w64 c.args.deck = c.ranges.deck in
    record {
      ends = rw (to_z-of_z w64 c.args.at at, to_z-of_z w64 c.args.deck deck) at c.empty_subtree.ensures.ends;
      listed = c.empty_subtree.ensures.listed;
      stays = c.empty_subtree.ensures.stays;
    }
